-- `text::holds_in` meets its contract.
-- Assumes nothing.
use mathlib.Core.Path.{ap, ◌∙◌}
use Rattle.text.specs.Bytes.{holds}
use Rattle.text.proofs.Matching.{holds_std}
use Rattle.text.proofs.holds_in.Goals as goal

pub returns : goal.returns
returns c = c.contains.ensures.value ∙ holds_std _ _ ∙ ap (holds c.args.b) c.part_of.ensures
