use native.Mathlib.Omega.{arith}
use Rattle.reach.proofs.Inner.{known_none, known_more, known_all}
use Rattle.reach.proofs.close_rows.Goals as goal

pub loop-k-init : goal.loop-k-init
loop-k-init c = known_none c.args.rows.now c.args.n

pub loop-k-preserved : goal.loop-k-preserved
loop-k-preserved c = known_more c.loop-k.invariant (omega arith) c.join_rows.ensures

pub returns : goal.returns
returns c = known_all c.requires c.loop-k.invariant (omega arith)
