-- The members of a set with one more in it, and how many it has.
-- Assumes nothing.
use Prim.Native.Nat.{ℕ, suc, ◌≤◌}
use native.Mathlib.Omega.{arith}
use mathlib.Core.Path.{◌≡◌, refl}
use mathlib.Core.Bool.{Bool, true}
use mathlib.Core.Logic.{◌⊎◌, inl, inr}
use mathlib.Core.List.{List, [], ◌∷◌}
use lib.Dec.{eqb, ltb}
use lib.ListN.{length}
use borrow.Author.Tests.{eqb-true, eq-eqb}
use Rattle.lex.proofs.Tests.{by_test}
use Rattle.sets.specs.Sets.{elem, insert_asc}

pub insert_length : (x : ℕ) (l : List ℕ) → length (insert_asc x l) ≤ suc (length l)
unfolding insert_asc
insert_length x [] = omega arith
insert_length x (y ∷ l) =
    let k : length (insert_asc x l) ≤ suc (length l) = insert_length x l in
    by_test (λ (z : List ℕ). length z ≤ suc (suc (length l))) (ltb x y) (λ e. omega arith)
    (λ e. by_test (λ (z : List ℕ). length z ≤ suc (suc (length l))) (eqb x y) (λ e. omega arith) (λ e. omega arith))

elem_split : (j y : ℕ) (l : List ℕ) → elem j (y ∷ l) ≡ true → (j ≡ y) ⊎ (elem j l ≡ true)
unfolding elem
elem_split j y l = by_test (λ (b : Bool). b ≡ true → (j ≡ y) ⊎ (elem j l ≡ true)) (eqb j y) (λ e h. inl (eqb-true j y e)) (λ e h. inr h)

elem_first : (j y : ℕ) (l : List ℕ) → j ≡ y → elem j (y ∷ l) ≡ true
unfolding elem
elem_first j y l e = rw (eq-eqb j y e)

elem_later : (j y : ℕ) (l : List ℕ) → elem j l ≡ true → elem j (y ∷ l) ≡ true
unfolding elem
elem_later j y l h = by_test (λ (b : Bool). b ≡ true) (eqb j y) (λ e. refl) (λ e. h)

-- it, or one of those before
pub insert_elem : (j x : ℕ) (l : List ℕ) → elem j (insert_asc x l) ≡ true → (j ≡ x) ⊎ (elem j l ≡ true)
unfolding insert_asc
insert_elem j x [] h = elem_split j x [] h
insert_elem j x (y ∷ l) h =
    by_test (λ (z : List ℕ). elem j z ≡ true → (j ≡ x) ⊎ (elem j (y ∷ l) ≡ true)) (ltb x y) (λ e. elem_split j x (y ∷ l))
    (λ e. by_test (λ (z : List ℕ). elem j z ≡ true → (j ≡ x) ⊎ (elem j (y ∷ l) ≡ true)) (eqb x y) (λ e k. inr k)
    (λ e k. head (elem_split j y (insert_asc x l) k) (insert_elem j x l))) h
  where
    tail : (j ≡ x) ⊎ (elem j l ≡ true) → (j ≡ x) ⊎ (elem j (y ∷ l) ≡ true)
    tail (inl e) = inl e
    tail (inr e) = inr (elem_later j y l e)

    head : (j ≡ y) ⊎ (elem j (insert_asc x l) ≡ true) → (elem j (insert_asc x l) ≡ true → (j ≡ x) ⊎ (elem j l ≡ true))
        → (j ≡ x) ⊎ (elem j (y ∷ l) ≡ true)
    head (inl e) ih = inr (elem_first j y l e)
    head (inr e) ih = tail (ih e)
