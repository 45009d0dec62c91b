-- `input::parse_names` meets its contract.
-- Assumes nothing.
use Rattle.input.proofs.Filling.{Naming}
use Rattle.input.proofs.parse_names.Given as goal

abbrev pub invariant-loop-k : goal.invariant-loop-k
invariant-loop-k l = Naming l.s l.at l.n l.initial.table l.table l.i l.k
