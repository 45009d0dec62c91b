-- `arguments::open_at` meets its contract. The invariant: the list sought from `i` on is that sought from `at` on.
-- Assumes nothing.
use Prim.Native.Nat.{◌-◌}
use mathlib.Core.Path.{◌≡◌}
use Rattle.pending.specs.Sources.{items_from, last_of}
use Rattle.arguments.specs.Arguments.{seek}
use Rattle.arguments.proofs.open_at.Given as goal

abbrev pub invariant-loop-t : goal.invariant-loop-t
invariant-loop-t l = seek (items_from l.s l.b l.list l.n l.file l.at) ≡ seek (items_from l.s l.b l.list l.n l.file l.i)

abbrev pub decreases-loop-t : goal.decreases-loop-t
decreases-loop-t l = last_of l.s l.n l.file - l.i
