-- `replace::formal_of` meets its contract. The invariant: none of the first `k` formals has the name, and the next starts at `i`.
-- Assumes nothing.
use Rattle.replace.proofs.Formals.{Sought}
use Rattle.replace.proofs.formal_of.Given as goal

abbrev pub invariant-loop-k : goal.invariant-loop-k
invariant-loop-k l = Sought l.b l.w l.at l.count l.i l.k
