-- `copying::past_plain` meets its contract.
-- Assumes nothing.
use Rattle.copying.proofs.past_plain.Goals as goal

pub returns : goal.returns
returns c = rw c.is_gap.ensures
