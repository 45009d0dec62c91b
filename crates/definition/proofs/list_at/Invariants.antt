-- `definition::list_at` meets its contract. The invariant: the list from `i` on, with `n` formals before it, is the list from `at` on.
-- Assumes nothing.
use Prim.Native.Nat.{◌-◌}
use lib.ListN.{length}
use Rattle.definition.proofs.Counting.{Counted}
use Rattle.definition.proofs.list_at.Given as goal

abbrev pub invariant-loop-i : goal.invariant-loop-i
invariant-loop-i l = Counted l.s l.at l.initial.stack l.stack l.i l.n

abbrev pub decreases-loop-i : goal.decreases-loop-i
decreases-loop-i l = length l.s - l.i
