-- More numbers than there are places: one stands twice.
-- Assumes nothing.
use mathlib.Core.Path.{◌≡◌, refl, sym, ap, subst}
use mathlib.Core.Bool.{Bool, true, false, cond}
use mathlib.Core.Logic.{◌⊎◌, inl, inr}
use mathlib.Core.List.Memᴰ.{head as first}
use mathlib.Core.List.Memᴰ.{tail as later}
use mathlib.Core.List.{List, [], ◌∷◌, Memᴰ as In}
use Prim.Native.Nat.{ℕ, zero, suc, ◌<◌, ◌≤◌}
use native.Mathlib.Omega.{arith}
use lib.Dec.{eqb}
use lib.ListN.{length}
use borrow.Author.Tests.{eqb-true, eqb-false}

pub data Twice : List ℕ → Type 0 where
  now : {x : ℕ} {l : List ℕ} → In x l → Twice (x ∷ l)
  after : {x : ℕ} {l : List ℕ} → Twice l → Twice (x ∷ l)

pub data Below (n : ℕ) : List ℕ → Type 0 where
  below_nil : Below n []
  below_cons : {x : ℕ} {l : List ℕ} → x < n → Below n l → Below n (x ∷ l)

unfoldable others : ℕ → List ℕ → List ℕ
others n [] = []
others n (x ∷ l) = cond (eqb x n) (others n l) (x ∷ others n l)

in_others : (n y : ℕ) (l : List ℕ) → In y (others n l) → In y l
unfolding others
in_others n y [] h = elim h [ ]
in_others n y (x ∷ l) h = go (eqb x n) h (in_others n y l)
  where
    grow : In y (x ∷ others n l) → (In y (others n l) → In y l) → In y (x ∷ l)
    grow (first e) ih = first e
    grow (later k) ih = later (ih k)

    go : (b : Bool) → In y (cond b (others n l) (x ∷ others n l)) → (In y (others n l) → In y l) → In y (x ∷ l)
    go true k ih = later (ih k)
    go false k ih = grow k ih

twice_others : (n : ℕ) (l : List ℕ) → Twice (others n l) → Twice l
unfolding others
twice_others n [] h = elim h [ ]
twice_others n (x ∷ l) h = go (eqb x n) h (twice_others n l)
  where
    grow : Twice (x ∷ others n l) → (Twice (others n l) → Twice l) → Twice (x ∷ l)
    grow (now k) ih = now (in_others n x l k)
    grow (after k) ih = after (ih k)

    go : (b : Bool) → Twice (cond b (others n l) (x ∷ others n l)) → (Twice (others n l) → Twice l) → Twice (x ∷ l)
    go true k ih = after (ih k)
    go false k ih = grow k ih

below_others : (n : ℕ) (l : List ℕ) → Below (suc n) l → Below n (others n l)
unfolding others
below_others n [] h = below_nil
below_others n (x ∷ l) (below_cons k h) = go (eqb x n) refl (below_others n l h)
  where
    go : (b : Bool) → eqb x n ≡ b → Below n (others n l) → Below n (cond b (others n l) (x ∷ others n l))
    go true e ih = ih
    go false e ih = let ne : x ≡ n → ⊥ = eqb-false x n e in let lt : x < n = omega arith in below_cons lt ih

in_or_same : (n : ℕ) (l : List ℕ) → In n l ⊎ (length (others n l) ≡ length l)
unfolding others
in_or_same n [] = inr refl
in_or_same n (x ∷ l) = go (eqb x n) refl (in_or_same n l)
  where
    go : (b : Bool) → eqb x n ≡ b → In n l ⊎ (length (others n l) ≡ length l) → In n (x ∷ l) ⊎ (length (cond b (others n l) (x ∷ others n l)) ≡ suc (length l))
    go true e ih = inl (first (sym (eqb-true x n e)))
    go false e (inl k) = inl (later k)
    go false e (inr k) = inr (ap suc k)

twice_or_few : (n : ℕ) (l : List ℕ) → Twice l ⊎ (length l ≤ suc (length (others n l)))
unfolding others
twice_or_few n [] = inr (omega arith)
twice_or_few n (x ∷ l) = go (eqb x n) refl (in_or_same n l) (twice_or_few n l)
  where
    go : (b : Bool) → eqb x n ≡ b → In n l ⊎ (length (others n l) ≡ length l) → Twice l ⊎ (length l ≤ suc (length (others n l)))
        → Twice (x ∷ l) ⊎ (suc (length l) ≤ suc (length (cond b (others n l) (x ∷ others n l))))
    go true e (inl k) ih = inl (now (subst (λ z. In z l) (sym (eqb-true x n e)) k))
    go true e (inr k) ih = inr (omega arith)
    go false e k (inl t) = inl (after t)
    go false e k (inr t) = inr (omega arith)

pub pigeon : (n : ℕ) (l : List ℕ) → Below n l → n < length l → Twice l
pigeon zero [] h k = absurd (omega arith)
pigeon zero (x ∷ l) (below_cons b h) k = absurd (omega arith)
pigeon (suc n) l h k = go (twice_or_few n l) (λ j. pigeon n (others n l) (below_others n l h) j)
  where
    go : Twice l ⊎ (length l ≤ suc (length (others n l))) → (n < length (others n l) → Twice (others n l)) → Twice l
    go (inl t) ih = t
    go (inr t) ih = twice_others n l (ih (omega arith))

abbrev NotNil : List ℕ → Type 0
NotNil [] = ⊥
NotNil (t ∷ ts) = Unit {0}

twice_some : {l : List ℕ} → Twice l → NotNil l
twice_some (now h) = tt
twice_some (after t) = tt

pub none_twice : {A : Type 0} → Twice [] → A
none_twice t = absurd (twice_some t)
