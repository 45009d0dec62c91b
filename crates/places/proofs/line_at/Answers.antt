-- `places::line_at` meets its contract.
-- Assumes nothing.
use Rattle.places.proofs.Lines.{line_counted}
use Rattle.places.proofs.line_at.Goals as goal

pub returns : goal.returns
returns c = line_counted _ _ _ _ c.part_of.ensures c.newlines_in.ensures.0
