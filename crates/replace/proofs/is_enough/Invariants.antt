-- `replace::is_enough` meets its contract. The invariant: the formals from `at` on accept `given` arguments exactly if those from `i` on accept `given` less `k`.
-- Assumes nothing.
use Rattle.replace.proofs.Formals.{Passed}
use Rattle.replace.proofs.is_enough.Given as goal

abbrev pub invariant-loop-k : goal.invariant-loop-k
invariant-loop-k l = Passed l.b l.at l.count l.given l.i l.k
