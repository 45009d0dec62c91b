-- `reach::join_rows` meets its contract: row after row.
-- Assumes nothing.
use Rattle.reach.proofs.Joining.{Joining}
use Rattle.reach.proofs.join_rows.Given as goal

abbrev pub invariant-loop-i : goal.invariant-loop-i
invariant-loop-i l = Joining l.initial.rows l.rows l.n l.i l.k
