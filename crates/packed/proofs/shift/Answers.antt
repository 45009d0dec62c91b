use mathlib.Core.Path.{sym, ◌∙◌}
use native.Mathlib.Omega.{arith}
use lib.ListN.{length-set}
use Rattle.packed.proofs.Rows.{from_next, from_out}
use Rattle.packed.proofs.shift.Goals as goal

pub loop-i-preserved : goal.loop-i-preserved
loop-i-preserved c = (from_next _ _ c.loop-i.i c.args.to c.loop-i.records _ c.loop-i-test.true (omega arith) c.moved.ensures ∙ c.loop-i.invariant.0, length-set c.loop-i.records c.loop-i.i c.moved.result ∙ c.loop-i.invariant.1)

pub shape_of-records : goal.shape_of-records
shape_of-records c = c.loop-i.invariant.1

pub returns : goal.returns
returns c = sym (from_out _ _ c.loop-i.i c.args.to c.loop-i.records (omega arith)) ∙ c.loop-i.invariant.0
