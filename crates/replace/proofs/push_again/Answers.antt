use mathlib.Core.List.{[]}
use Rattle.replace.proofs.Again.{again_next, again_full}
use Rattle.replace.proofs.push_again.Goals as goal

pub loop-i-preserved : goal.loop-i-preserved
loop-i-preserved c = again_next c.loop-i.invariant c.requires.1 c.requires.0 c.loop-i-test.true c.pend_of-p.ensures c.in_ok-k.ensures

pub returns-in_err-k : goal.returns-in_err-k
returns-in_err-k c = rw c.from_residual.ensures (again_full c.loop-i.invariant c.requires.1 c.requires.0 c.loop-i-test.true c.push.new.out (c.in_err-k.ensures [] []))
