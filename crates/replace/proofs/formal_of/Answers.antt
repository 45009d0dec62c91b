use Rattle.replace.proofs.Formals.{sought_out, sought_hit, sought_next}
use Rattle.replace.proofs.formal_of.Goals as goal

pub returns-then-same : goal.returns-then-same
returns-then-same c = sought_hit c.loop-k.invariant c.loop-k-test.true c.formal_name.ensures c.same.ensures c.requires.0 c.requires.1 c.if-same.true

pub loop-k-preserved : goal.loop-k-preserved
loop-k-preserved c = sought_next c.loop-k.invariant c.loop-k-test.true c.formal_name.ensures c.same.ensures c.if-same.false c.formal_end-i.ensures

pub returns : goal.returns
returns c = sought_out c.loop-k.invariant c.requires.0 c.requires.1 c.loop-k-test.false
