-- `input::parse_bodies` meets its contract.
-- Assumes nothing.
use Rattle.input.proofs.Filling.{Bodying}
use Rattle.input.proofs.parse_bodies.Given as goal

abbrev pub invariant-loop-k : goal.invariant-loop-k
invariant-loop-k l = Bodying l.s l.at l.n l.initial.table l.table l.i l.k
