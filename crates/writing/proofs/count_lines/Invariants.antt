-- `writing::count_lines` meets its contract. The invariant: `n` entries before the index, with those from it on, are the entries of the bytes.
-- Assumes nothing.
use Rattle.writing.proofs.Writing.{Counted}
use Rattle.writing.proofs.count_lines.Given as goal

abbrev pub invariant-loop-b : goal.invariant-loop-b
invariant-loop-b l = Counted l.w l.fresh l.b-index l.n l.f
