-- `storing::put_joined` meets its contract. The invariant: what is added so far and what the bytes from the next one on give are what all of them give.
-- Assumes nothing.
use Rattle.std.proofs.Common.{false, drop}
use Rattle.text.specs.Bytes.{part}
use Rattle.storing.specs.Stored.{joined_from}
use Rattle.storing.proofs.Adding.{Adding}
use Rattle.storing.proofs.put_joined.Given as goal

abbrev pub invariant-loop-b : goal.invariant-loop-b
invariant-loop-b l = Adding l.initial.out l.out l.from l.n l.k (joined_from l.escaped (drop l.b-index l.b-items)) (joined_from false (part l.s l.at l.end))
