-- The four digits of a byte: what a digit counts, and a byte whose digit j is set and those below are kept.
-- Assumes nothing.
use Prim.Native.Nat.{ℕ, zero, suc, ◌+◌, ◌*◌, ◌/◌, ◌%◌, ◌<◌}
use mathlib.Core.Bool.{Bool, true, false, cond}
use mathlib.Core.Path.{◌≡◌}
use native.Mathlib.Omega.{arith}
use lib.Dec.{eqb}
use Rattle.brackets.specs.Stacks.{weight, digit_of}

-- what holds of each of the four weights
weights : (P : ℕ → Type 0) → P 1 → P 4 → P 16 → P 64 → (j : ℕ) → P (weight j)
weights P a b c d j = by (eqb j 0) (eqb j 1) (eqb j 2)
  where
    by : (p q r : Bool) → P (cond p 1 (cond q 4 (cond r 16 64)))
    by true q r = a
    by false true r = b
    by false false true = c
    by false false false = d

pub weight_some : (j : ℕ) → 0 < weight j
weight_some = weights (λ (w : ℕ). 0 < w) (omega arith) (omega arith) (omega arith) (omega arith)

-- a bracket's digit
pub digit_small : (b : ℕ) → digit_of b < 4
digit_small b = by (eqb b 41) (eqb b 93)
  where
    by : (p q : Bool) → cond p 0 (cond q 1 2) < 4
    by true q = omega arith
    by false true = omega arith
    by false false = omega arith

-- the byte a with digit k at j, what stands below kept
abbrev pub with_digit : ℕ → ℕ → ℕ → ℕ
with_digit a k j = a % weight j + k * weight j

pub digit_fits : (k j : ℕ) → k < 4 → k * weight j < 256
digit_fits k j h = weights (λ (w : ℕ). k * w < 256) (omega arith) (omega arith) (omega arith) (omega arith) j

module _ (a k : ℕ) where
  pub with_fits : (j : ℕ) → k < 4 → with_digit a k j < 256
  with_fits j h = weights (λ (w : ℕ). a % w + k * w < 256) (omega arith) (omega arith) (omega arith) (omega arith) j

  pub digit_set : (j : ℕ) → k < 4 → with_digit a k j / weight j % 4 ≡ k
  digit_set j h = weights (λ (w : ℕ). (a % w + k * w) / w % 4 ≡ k) (omega arith) (omega arith) (omega arith) (omega arith) j

  pub digit_kept : (j m : ℕ) → j < 4 → m < j → with_digit a k j / weight m % 4 ≡ a / weight m % 4
  digit_kept zero m l h = absurd (omega arith)
  digit_kept (suc zero) zero l h = omega arith
  digit_kept (suc zero) (suc m) l h = absurd (omega arith)
  digit_kept (suc (suc zero)) zero l h = omega arith
  digit_kept (suc (suc zero)) (suc zero) l h = omega arith
  digit_kept (suc (suc zero)) (suc (suc m)) l h = absurd (omega arith)
  digit_kept (suc (suc (suc zero))) zero l h = omega arith
  digit_kept (suc (suc (suc zero))) (suc zero) l h = omega arith
  digit_kept (suc (suc (suc zero))) (suc (suc zero)) l h = omega arith
  digit_kept (suc (suc (suc zero))) (suc (suc (suc m))) l h = absurd (omega arith)
  digit_kept (suc (suc (suc (suc j)))) m l h = absurd (omega arith)
