use native.Mathlib.Omega.{arith}
use Rattle.writing.proofs.Writing.{counted_none, counted_line, counted_other, counted_all}
use Rattle.writing.proofs.count_lines.Goals as goal
use Rattle.writing.proofs.count_lines.Goals.{then-f, else-f}

pub loop-b-init : goal.loop-b-init
loop-b-init c = counted_none _ _

pub loop-b-preserved : goal.loop-b-preserved
loop-b-preserved c = elim c.if-f.branch [
  | then-f w ↦ counted_line c.loop-b.invariant (omega arith) w.if-f.true w.n-is
  | else-f w ↦ counted_other c.loop-b.invariant (omega arith) w.if-f.false w.n-is
]

pub returns : goal.returns
returns c = counted_all c.loop-b.invariant (omega arith)
