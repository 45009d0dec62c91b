-- An answer with bytes for brackets: the right one, or short of bytes.
-- Assumes nothing.
use Prim.Native.Nat.{ℕ}
use mathlib.Core.List.{List}
use mathlib.Core.Logic.{inl, inr}
use mathlib.Core.Path.{◌≡◌, ap, ◌∙◌}
use native.Mathlib.Omega.{arith}
use lib.ListN.{length}
use Rattle.brackets.specs.Stacks.{Full, Settled, full, over}

-- buffers of one length have room alike
pub full_lent : (w v : List ℕ) (n : ℕ) → length w ≡ length v → Full w n → Full v n
full_lent w v n h (inl l) = inl (omega arith)
full_lent w v n h (inr l) = inr l

module _ {A : Type 0} {w : List ℕ} {n : ℕ} {short right r : A} where
  -- an answer other than `short` is the right one
  pub settled_full : Settled w n short right r → (r ≡ short → ⊥) → r ≡ right
  settled_full (full e) q = e
  settled_full (over e l) q = absurd (q e)

  -- `short` where it is not the right answer: the bytes are too few
  pub settled_over : Settled w n short right r → r ≡ short → (right ≡ short → ⊥) → Full w n
  settled_over (full e) q k = absurd (k (cc))
  settled_over (over e l) q k = l

  -- buffers of one length settle alike
  pub settled_lent : {v : List ℕ} → length w ≡ length v → Settled w n short right r → Settled v n short right r
  settled_lent h (full e) = full e
  settled_lent {v} h (over e l) = over e (full_lent w v n h l)

  -- the right answer, said in other words
  pub settled_as : {right' : A} → right ≡ right' → Settled w n short right r → Settled w n short right' r
  settled_as h (full e) = full (e ∙ h)
  settled_as h (over e l) = over e l

-- an answer handed on through a function, told in other words
pub settled_through : {A B : Type 0} (f : A → B) {w : List ℕ} {n : ℕ} {short right r : A} → Settled w n short right r → {v : B} → v ≡ f r
    → Settled w n (f short) (f right) v
settled_through f (full e) q = full (q ∙ ap f e)
settled_through f (over e l) q = over (q ∙ ap f e) l
