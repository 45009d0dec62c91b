-- The work bytes: a text stored at their front, and too few of them.
-- Assumes nothing.
use Prim.Native.Nat.{ℕ, ◌-◌, ◌<◌}
use mathlib.Core.List.{List}
use mathlib.Core.Logic.{inl, inr}
use mathlib.Core.Path.{◌≡◌, ap, ◌∙◌}
use native.Mathlib.Omega.{arith}
use lib.ListN.{length, take}
use Rattle.text.specs.Bytes.{part}
use Rattle.brackets.specs.Stacks.{Full}
use Rattle.storing.specs.Stored.{stored}
use Rattle.storing.specs.Writing.{StoredAt}

module _ {s : List ℕ} {i e : ℕ} {o o' : List ℕ} where
  pub stored_front : {n : ℕ} → StoredAt s i e o o' 0 n → part o' 0 n ≡ stored s i e
  stored_front {n} d =
      let z : n - 0 ≡ n = omega arith in
      ap (λ (k : ℕ). take k o') z ∙ d.bytes

-- bytes with no room for n brackets are fewer than n
pub full_fewer : (w : List ℕ) (n : ℕ) → 0 < n → n < 18446744073709551615 → Full w n → length w < n
full_fewer w n p h (inl l) = omega arith
full_fewer w n p h (inr l) = absurd (omega arith)
