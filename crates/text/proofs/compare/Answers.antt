-- `text::compare` meets its contract.
-- Assumes nothing.
use mathlib.Core.Path.{◌∙◌}
use Rattle.text.proofs.Comparing.{order_std}
use Rattle.text.proofs.compare.Goals as goal

pub returns : goal.returns
returns c = c.cmp.ensures ∙ order_std _ _
