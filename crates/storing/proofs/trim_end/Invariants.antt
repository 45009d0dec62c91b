-- `storing::trim_end` meets its contract. The invariant: what is trimmed up to `k` is what is trimmed up to `n`.
-- Assumes nothing.
use Rattle.storing.proofs.Trimming.{Trimming}
use Rattle.storing.proofs.trim_end.Given as goal

abbrev pub invariant-loop-k : goal.invariant-loop-k
invariant-loop-k l = Trimming l.out l.from l.n l.k
