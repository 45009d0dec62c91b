-- `copying::is_single` meets its contract.
-- Assumes nothing.
use Rattle.copying.proofs.is_single.Goals as goal

pub returns : goal.returns
returns c = rw c.is_white.ensures
