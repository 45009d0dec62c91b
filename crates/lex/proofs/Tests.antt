-- What follows of a choice by a test, and of a test on a byte.
-- Assumes nothing.
use Prim.Native.Nat.{ℕ, ◌<◌}
use mathlib.Core.Bool.{Bool, true, false, cond, ◌&&◌}
use mathlib.Core.List.{List}
use mathlib.Core.Path.{◌≡◌, refl, ap, sym, ◌∙◌}
use native.Mathlib.Omega.{arith}
use lib.Dec.{leb}
use lib.ListN.{length, get_or, get_or-eq_default}
use borrow.Author.Tests.{leb-true, leb-false}

-- what holds of both values of a test, where each is known under its outcome, holds of the value picked
pub by_test : {A : Type 0} (P : A → Type 0) (b : Bool) {x y : A} → (b ≡ true → P x) → (b ≡ false → P y) → P (cond b x y)
by_test P true f g = f refl
by_test P false f g = g refl

pub and_left : (a b : Bool) → (a && b) ≡ true → a ≡ true
and_left true b e = refl
and_left false b e = e

pub and_right : (a b : Bool) → (a && b) ≡ true → b ≡ true
and_right true b e = e
and_right false b e = cc

pub true_false : {A : Type 0} (b : Bool) → b ≡ true → b ≡ false → A
true_false b p q = let z : ◌≡◌ {A = ℕ} 0 1 = cc in absurd (omega arith)

-- where a byte passes a test that 0 does not, the text goes on
pub read_within : (p : ℕ → Bool) → p 0 ≡ false → (s : List ℕ) (i : ℕ) → p (get_or s i 0) ≡ true → i < length s
read_within p z s i e = go (leb (length s) i) refl
  where
    go : (b : Bool) → leb (length s) i ≡ b → i < length s
    go true q = true_false (p 0) (ap p (sym (get_or-eq_default s 0 (leb-true (length s) i q))) ∙ e) z
    go false q = leb-false (length s) i q
