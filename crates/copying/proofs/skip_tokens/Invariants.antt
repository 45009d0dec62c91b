-- `copying::skip_tokens` meets its contract. The invariant: the tokens from the start to the cursor are skipped.
-- Assumes nothing.
use Prim.Native.Nat.{◌-◌}
use lib.ListN.{length}
use Rattle.copying.proofs.Going.{Gone}
use Rattle.copying.proofs.skip_tokens.Given as goal

abbrev pub invariant-loop-c : goal.invariant-loop-c
invariant-loop-c l = Gone l.s l.initial.c l.c

abbrev pub decreases-loop-c : goal.decreases-loop-c
decreases-loop-c l = length l.s - l.c.at
