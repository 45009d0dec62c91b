-- `afresh::read_run` meets its contract. It branches as its definition does.
-- Assumes nothing.
use Rattle.afresh.specs.States.{in_run}
use Rattle.afresh.proofs.Feeding.{fed_at}
use Rattle.afresh.proofs.read_run.Goals as goal

pub returns-then-is_run : goal.returns-then-is_run
unfolding in_run
returns-then-is_run c = simp (← c.is_run.ensures, c.if-is_run.true) (fed_at c.requires c.at_state.ensures)

pub returns : goal.returns
unfolding in_run
returns c = simp (← c.is_run.ensures, c.if-is_run.false) c.read_fresh.ensures
