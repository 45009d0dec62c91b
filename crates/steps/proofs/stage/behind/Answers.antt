-- `steps::stage::behind` meets its contract.
-- Assumes nothing.
use Rattle.steps.proofs.stage.behind.Goals as goal

pub returns : goal.returns
returns c = rw c.cursor_behind.ensures
