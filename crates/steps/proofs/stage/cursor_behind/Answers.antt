-- `steps::stage::cursor_behind` meets its contract.
-- Assumes nothing.
use Rattle.copying.specs.Cursors.{cursor_behind}
use Rattle.steps.proofs.stage.cursor_behind.Goals as goal

pub returns : goal.returns
unfolding cursor_behind
returns c = rw (c.newlines_in.ensures.0, c.part_of.ensures)
