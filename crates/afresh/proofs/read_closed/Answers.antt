-- `afresh::read_closed` meets its contract. It branches as its definition does.
-- Assumes nothing.
use Rattle.afresh.specs.States.{closed}
use Rattle.afresh.proofs.Feeding.{fed_at}
use Rattle.afresh.proofs.read_closed.Goals as goal

pub returns-then-is_spoilt : goal.returns-then-is_spoilt
unfolding closed
returns-then-is_spoilt c = simp (← c.is_spoilt.ensures c.args.stack.now, c.if-is_spoilt.true) (fed_at c.requires c.at_state.ensures)

pub returns : goal.returns
unfolding closed
returns c = simp (← c.is_spoilt.ensures c.args.stack.now, c.if-is_spoilt.false) c.read_fresh.ensures
