-- `macros::starts_size` meets its contract. The loop's invariant: the sizes of the ranges before this one are counted, each below 2^32.
-- Assumes nothing.
use Prim.Native.Nat.{◌+◌, ◌*◌, ◌≤◌}
use mathlib.Core.Path.{◌≡◌}
use lib.ListN.{drop}
use Rattle.macros.specs.Starting.{starts_size}
use Rattle.macros.proofs.starts_size.Given as goal

abbrev pub invariant-loop-v : goal.invariant-loop-v
invariant-loop-v l = (l.n + starts_size l.s (drop l.v-index l.ranges) ≡ starts_size l.s l.ranges) × (l.n ≤ 4294967296 * l.v-index)
