-- `places::newlines_in` meets its contract. The invariant: `n` newlines are among the bytes before the index.
-- Assumes nothing.
use mathlib.Core.Path.{◌≡◌}
use Prim.Native.Nat.{ℕ}
use lib.Dec.{eqb}
use lib.ListN.{take}
use Rattle.std.specs.List.{count_by}
use Rattle.places.proofs.newlines_in.Given as goal

abbrev pub invariant-loop-b : goal.invariant-loop-b
invariant-loop-b l = l.n ≡ count_by (λ (b : ℕ). eqb b 10) (take l.b-index l.w)
