-- Whether no white space stands at either end, told by the first byte and the last.
-- Assumes nothing.
use Prim.Native.Nat.{ℕ, suc, ◌-◌, ◌≤◌}
use mathlib.Core.Bool.{Bool, true, false, cond, not}
use mathlib.Core.List.{List, [], ◌∷◌}
use mathlib.Core.Path.{◌≡◌, refl, sym, ◌∙◌}
use native.Mathlib.Omega.{arith}
use lib.ListN.{length, get_or}
use borrow.Author.Tests.{eq-eqb}
use Rattle.text.specs.Bytes.{same}
use Rattle.text.proofs.Matching.{same_length}
use Rattle.lex.specs.Classes.{is_space}
use Rattle.storing.specs.Stored.{keep, trim_left, trim_right}
use Rattle.genuine.specs.Fitness.{is_trimmed}

-- what is trimmed is no longer than before
left_short : (w : List ℕ) → length (trim_left w) ≤ length w
unfolding trim_left
left_short [] = omega arith
left_short (x ∷ xs) = go (is_space x) (left_short xs)
  where
    go : (t : Bool) → length (trim_left xs) ≤ length xs → length (cond t (trim_left xs) (x ∷ xs)) ≤ suc (length xs)
    go true h = omega arith
    go false h = omega arith

keep_short : (x : ℕ) (t : List ℕ) → length (keep x t) ≤ suc (length t)
keep_short x [] = go (is_space x)
  where
    go : (t : Bool) → length (cond t [] (x ∷ [])) ≤ 1
    go true = omega arith
    go false = omega arith
keep_short x (y ∷ ys) = omega arith

right_short : (w : List ℕ) → length (trim_right w) ≤ length w
unfolding trim_right
right_short [] = omega arith
right_short (x ∷ xs) = let h = right_short xs in let k = keep_short x (trim_right xs) in omega arith

-- the last byte alone decides at the end
keep_same : (x y : ℕ) (t ys : List ℕ) → same (keep x t) (x ∷ y ∷ ys) ≡ same t (y ∷ ys)
unfolding same
keep_same x y [] ys = go (is_space x)
  where
    go : (t : Bool) → same (cond t [] (x ∷ [])) (x ∷ y ∷ ys) ≡ false
    go true = refl
    go false = rw (eq-eqb x x refl)
keep_same x y (z ∷ zs) ys = rw (eq-eqb x x refl)

last_told : (x : ℕ) (xs : List ℕ) → same (trim_right (x ∷ xs)) (x ∷ xs) ≡ not (is_space (get_or (x ∷ xs) (length xs) 0))
unfolding same trim_right
last_told x [] = go (is_space x)
  where
    go : (t : Bool) → same (cond t [] (x ∷ [])) (x ∷ []) ≡ not t
    go true = refl
    go false = rw (eq-eqb x x refl)
last_told x (y ∷ ys) = keep_same x y (trim_right (y ∷ ys)) ys ∙ last_told y ys

pub trimmed_none : (w : List ℕ) → length w ≡ 0 → true ≡ is_trimmed w
unfolding same trim_left trim_right
trimmed_none [] e = refl
trimmed_none (x ∷ xs) e = absurd (omega arith)

pub trimmed_no : (w : List ℕ) {b : Bool} → (length w ≡ 0 → ⊥) → b ≡ is_space (get_or w 0 0) → b ≡ true → false ≡ is_trimmed w
unfolding trim_left
trimmed_no [] h e t = absurd (h refl)
trimmed_no (x ∷ xs) h e t =
    let p = left_short xs in
    let q = right_short (trim_left xs) in
    let f : same (trim_right (trim_left xs)) (x ∷ xs) ≡ false = same_length (trim_right (trim_left xs)) (x ∷ xs) (λ z. omega arith) in
    rw (sym e ∙ t, f)

pub trimmed_last : (w : List ℕ) {b c : Bool} → (length w ≡ 0 → ⊥) → b ≡ is_space (get_or w 0 0) → b ≡ false → c ≡ is_space (get_or w (length w - 1) 0) → not c ≡ is_trimmed w
unfolding trim_left
trimmed_last [] h e t f = absurd (h refl)
trimmed_last (x ∷ xs) h e t f = let z : suc (length xs) - 1 ≡ length xs = omega arith in rw (f, sym e ∙ t, z) (sym (last_told x xs))
