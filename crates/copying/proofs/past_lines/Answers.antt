-- `copying::past_lines` meets its contract.
-- Assumes nothing.
use Rattle.copying.proofs.past_lines.Goals as goal

pub returns : goal.returns
returns c = rw c.newlines_in-n.ensures.0
