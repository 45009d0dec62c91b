-- `writing::write_byte` meets its contract.
-- Assumes nothing.
use native.Mathlib.Omega.{arith}
use Rattle.writing.proofs.Laws.{puts_line, puts_byte}
use Rattle.writing.proofs.Writing.{one_entry}
use Rattle.writing.proofs.write_byte.Goals as goal

pub bounds-map-l : goal.bounds-map-l
bounds-map-l c = omega (arith, one_entry c.args.z.fresh c.args.b c.if-z.true)

pub returns-then-z : goal.returns-then-z
returns-then-z c = puts_line _ _ _ _ _ c.if-z.true

pub returns : goal.returns
returns c = puts_byte _ _ _ _ _ c.if-z.false
