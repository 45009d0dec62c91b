use Rattle.replace.proofs.Formals.{passed_all, passed_short, passed_next, too_many}
use Rattle.replace.proofs.is_enough.Goals as goal

pub returns-then-count-given : goal.returns-then-count-given
returns-then-count-given c = too_many _ _ _ _ c.if-count-given.true

pub returns-then-given-k : goal.returns-then-given-k
returns-then-given-k c = passed_short c.loop-k.invariant c.loop-k-test.true c.mark_at.ensures c.peek.ensures c.if-given-k.true

pub loop-k-preserved : goal.loop-k-preserved
loop-k-preserved c = passed_next c.loop-k.invariant c.loop-k-test.true c.mark_at.ensures c.peek.ensures c.if-given-k.false c.formal_end-i.ensures

pub returns : goal.returns
returns c = passed_all c.loop-k.invariant c.if-count-given.false c.loop-k-test.false
