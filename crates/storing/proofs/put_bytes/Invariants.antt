-- `storing::put_bytes` meets its contract. The invariant: what is added so far and the bytes from the next one on are the whole part.
-- Assumes nothing.
use Rattle.std.proofs.Common.{drop}
use Rattle.text.specs.Bytes.{part}
use Rattle.storing.proofs.Adding.{Adding}
use Rattle.storing.proofs.put_bytes.Given as goal

abbrev pub invariant-loop-b : goal.invariant-loop-b
invariant-loop-b l = Adding l.initial.out l.out l.from l.n l.k (drop l.b-index l.b-items) (part l.s l.at l.end)
