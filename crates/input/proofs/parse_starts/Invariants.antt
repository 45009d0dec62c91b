-- `input::parse_starts` meets its contract.
-- Assumes nothing.
use Rattle.input.proofs.Filling.{Starting}
use Rattle.input.proofs.parse_starts.Given as goal

abbrev pub invariant-loop-k : goal.invariant-loop-k
invariant-loop-k l = Starting l.s l.at l.n l.initial.starts l.starts l.i l.k
