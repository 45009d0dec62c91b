-- `afresh::read_tick` meets its contract. It branches as its definition does.
-- Assumes nothing.
use Rattle.afresh.specs.States.{in_tick}
use Rattle.afresh.proofs.Feeding.{fed_at}
use Rattle.afresh.proofs.read_tick.Goals as goal

pub returns-then-is_base : goal.returns-then-is_base
unfolding in_tick
returns-then-is_base c = simp (← c.is_base.ensures, c.if-is_base.true) (fed_at c.requires c.at_state.ensures)

pub returns-then-is_sign : goal.returns-then-is_sign
unfolding in_tick
returns-then-is_sign c = simp (← c.is_base.ensures, c.if-is_base.false, ← c.is_sign.ensures, c.if-is_sign.true) (c.start_name.ensures c.args.stack.now c.requires.depth)

pub returns : goal.returns
unfolding in_tick
returns c = simp (← c.is_base.ensures, c.if-is_base.false, ← c.is_sign.ensures, c.if-is_sign.false) c.read_fresh.ensures
