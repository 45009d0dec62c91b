-- `brackets::level` meets its contract. The digit of its byte.
-- Assumes nothing.
use mathlib.Core.Path.{◌∙◌}
use Prim.Native.Nat.{◌%◌}
use Rattle.brackets.specs.Stacks.{level_of}
use Rattle.brackets.proofs.Digits.{weight_some}
use Rattle.brackets.proofs.level.Goals as goal

pub nonzero_div-b-2 : goal.nonzero_div-b-2
nonzero_div-b-2 c = rw c.weight-w.ensures (weight_some (c.args.depth % 4))

pub returns : goal.returns
unfolding level_of
returns c = c.bracket_of.ensures ∙ rw c.weight-w.ensures
