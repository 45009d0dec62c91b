-- `flatten::started_at` meets its contract.
-- Assumes nothing.
use Rattle.flatten.proofs.started_at.Goals as goal

pub returns : goal.returns
returns c = rw c.reset_to.ensures
