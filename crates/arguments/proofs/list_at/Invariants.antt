-- `arguments::list_at` meets its contract. The invariant: the list from `at` on is read up to `i`, with `k` arguments done and the next from `from` on.
-- Assumes nothing.
use Prim.Native.Nat.{◌-◌}
use Rattle.pending.specs.Sources.{items_from, last_of}
use Rattle.arguments.proofs.Collecting.{Collecting}
use Rattle.arguments.proofs.list_at.Given as goal

abbrev pub invariant-loop-t : goal.invariant-loop-t
invariant-loop-t l =
    Collecting (items_from l.s l.b l.list l.n l.file) (last_of l.s l.n l.file) l.at l.initial.ranges l.ranges l.initial.stack l.stack l.from l.i l.k l.depth

abbrev pub decreases-loop-t : goal.decreases-loop-t
decreases-loop-t l = last_of l.s l.n l.file - l.i
