-- `writing::write_bytes` meets its contract. The invariant is `Going`.
-- Assumes nothing.
use Rattle.writing.proofs.Writing.{Going}
use Rattle.writing.proofs.write_bytes.Given as goal

abbrev pub invariant-loop-b : goal.invariant-loop-b
invariant-loop-b l = Going l.w l.place l.step l.initial.text l.initial.map l.initial.y l.text l.map l.b-index l.p l.y
