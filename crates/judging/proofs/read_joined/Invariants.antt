-- `judging::read_joined` meets its contract. The invariant: what the bytes from the next one on give, read from here, gives what that of all of them gives.
-- Assumes nothing.
use mathlib.Core.Bool.{false}
use lib.ListN.{drop}
use Rattle.storing.specs.Stored.{joined_from}
use Rattle.judging.proofs.Feeding.{Feeding}
use Rattle.judging.proofs.read_joined.Given as goal

abbrev pub invariant-loop-b : goal.invariant-loop-b
invariant-loop-b l = Feeding l.initial.q l.initial.name l.initial.stack l.q l.name l.stack (joined_from l.escaped (drop l.b-index l.w)) (joined_from false l.w)
