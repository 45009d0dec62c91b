-- `pass::uses_of` meets its contract.
-- Assumes nothing.
use mathlib.Core.List.{List}
use mathlib.Core.Path.{ap, ◌∙◌}
use native.Mathlib.Omega.{arith}
use Rattle.sets.specs.Sets.{elem}
use Rattle.pending.specs.Pending.{Pending}
use Rattle.passing.specs.Passing.{uses_in}
use Rattle.pass.proofs.Macros.{last_tokens}
use Rattle.pass.proofs.uses_of.Goals as goal

pub unfold_text-n-requires : goal.unfold_text-n-requires
unfold_text-n-requires c = (omega (arith, c.requires.0.bytes_small, c.requires.2), c.requires.0.bytes_small, c.read.ensures.small)

pub returns : goal.returns
returns c ms j h =
    c.uses_in.ensures ms j h
    ∙ ap (λ (ps : List Pending). elem j (uses_in ms ps))
    (last_tokens h c.requires.0.bytes_small c.args.i c.requires.1 c.read.ensures c.unfold_text-n.ensures)
