-- `judging::read_bytes` meets its contract. The invariant: the bytes from the next one on, read from here, give what all of them give.
-- Assumes nothing.
use lib.ListN.{drop}
use Rattle.judging.proofs.Feeding.{Feeding}
use Rattle.judging.proofs.read_bytes.Given as goal

abbrev pub invariant-loop-b : goal.invariant-loop-b
invariant-loop-b l = Feeding l.initial.q l.initial.name l.initial.stack l.q l.name l.stack (drop l.b-index l.w) l.w
