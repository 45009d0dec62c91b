-- `reach::close_rows` meets its contract: round after round, each lets one macro more be passed.
-- Assumes nothing.
use Rattle.reach.proofs.Inner.{Known}
use Rattle.reach.proofs.close_rows.Given as goal

abbrev pub invariant-loop-k : goal.invariant-loop-k
invariant-loop-k l = Known l.initial.rows l.rows l.n l.k
