-- `begins`, `same` and `holds` as tests of std, and how a part goes on at the next byte.
-- Assumes nothing.
use mathlib.Core.Path.{◌≡◌, refl, ap, ◌∙◌}
use mathlib.Core.Bool.{Bool, true, false, ◌&&◌}
use mathlib.Core.List.{List, [], ◌∷◌}
use Prim.Native.Nat.{ℕ, suc, ◌+◌, ◌-◌, ◌<◌, ◌≤◌, min}
use native.Mathlib.Numerals.{add-one}
use native.Mathlib.Omega.{arith}
use lib.Dec.{eqb}
use lib.ListN.{length, get_or, take, drop, drop_of_length-le, length-drop}
use lib.Seq.{drop-cons, take-nil, take_all}
use borrow.Author.Tests.{eqb-true, eq-eqb, ne_eqb}
use Rattle.std.proofs.lemmas.List.{drop_min}
use Rattle.std.specs.List.{list_any, starts_with}
use Rattle.std.proofs.lemmas.Bool.Decides.{nat_tests}
use Rattle.std.specs.Cmp.Lexicographic.{pointwise}
use Rattle.text.specs.Bytes.{begins, same, holds, part}

-- the three tests are those of std's slices
pub same_std : (s w : List ℕ) → pointwise eqb s w ≡ same s w
unfolding same
same_std [] [] = refl
same_std [] (b ∷ w) = refl
same_std (a ∷ s) [] = refl
same_std (a ∷ s) (b ∷ w) = rw (same_std s w)

eqb_swap : (a b : ℕ) → eqb b a ≡ eqb a b
eqb_swap a b = grind (arith, nat_tests)

pub begins_std : (s w : List ℕ) → starts_with eqb s w ≡ begins s w
unfolding begins
begins_std s [] = refl
begins_std [] (b ∷ w) = refl
begins_std (a ∷ s) (b ∷ w) = rw (begins_std s w, eqb_swap a b)

pub holds_std : (b : ℕ) (s : List ℕ) → list_any (λ x. eqb x b) s ≡ holds b s
unfolding holds
holds_std b [] = refl
holds_std b (x ∷ s) = rw (holds_std b s)

-- how `same` goes on at the next byte
module _ (s w : List ℕ) (i : ℕ) where
  pub same_end : length s ≡ length w → length w ≤ i → same (drop i s) (drop i w) ≡ true
  unfolding same
  same_end e h = let l : length s ≤ i = omega arith in rw (drop_of_length-le s l, drop_of_length-le w h)

  pub same_differ : i < length s → i < length w → (get_or s i 0 ≡ get_or w i 0 → ⊥) → same (drop i s) (drop i w) ≡ false
  unfolding same
  same_differ h l n = rw (drop-cons s i 0 h, drop-cons w i 0 l, ne_eqb (get_or s i 0) (get_or w i 0) n)

  pub same_next : i < length s → i < length w → get_or s i 0 ≡ get_or w i 0 → same (drop i s) (drop i w) ≡ same (drop (i + 1) s) (drop (i + 1) w)
  unfolding same
  same_next h l e = rw (add-one i, drop-cons s i 0 h, drop-cons w i 0 l, eq-eqb (get_or s i 0) (get_or w i 0) e)

-- words of two lengths differ
pub same_length : (s w : List ℕ) → (length s ≡ length w → ⊥) → same s w ≡ false
unfolding same
same_length [] [] h = absurd (h refl)
same_length [] (b ∷ w) h = refl
same_length (a ∷ s) [] h = refl
same_length (a ∷ s) (b ∷ w) h = go (eqb a b) (same_length s w (λ e. h (ap suc e)))
  where
    go : (t : Bool) → same s w ≡ false → (t && same s w) ≡ false
    go true ih = ih
    go false ih = refl

-- `same` is equality
pub same_self : (w : List ℕ) → same w w ≡ true
unfolding same
same_self [] = refl
same_self (b ∷ w) = rw (eq-eqb b b refl) (same_self w)

pub same_equal : (s w : List ℕ) → same s w ≡ true → s ≡ w
unfolding same
same_equal [] [] e = refl
same_equal [] (b ∷ w) e = cc
same_equal (a ∷ s) [] e = cc
same_equal (a ∷ s) (b ∷ w) e = go (eqb a b) (same_equal s w) refl e
  where
    go : (t : Bool) → (same s w ≡ true → s ≡ w) → eqb a b ≡ t → (t && same s w) ≡ true → a ∷ s ≡ b ∷ w
    go true ih q h = let f = eqb-true a b q in let g = ih h in cc
    go false ih q h = cc

-- the part from i on: its first byte, and the part past it
pub part_more : (s : List ℕ) (i e : ℕ) → i < e → i < length s → part s i e ≡ get_or s i 0 ∷ part s (i + 1) e
part_more s i e h l =
    let q : e - i ≡ suc (e - suc i) = omega arith in
    rw (q, add-one, drop-cons s i 0 l)

pub part_none : (s : List ℕ) (i e : ℕ) → e ≤ i → part s i e ≡ []
part_none s i e h =
    let q : e - i ≡ 0 = omega arith in
    rw q

pub part_out : (s : List ℕ) (i e : ℕ) → length s ≤ i → part s i e ≡ []
part_out s i e h = rw (drop_of_length-le s h) (take-nil (e - i))

pub holds_hit : (b : ℕ) (s : List ℕ) (i e : ℕ) → i < e → i < length s → get_or s i 0 ≡ b → holds b (part s i e) ≡ true
unfolding holds
holds_hit b s i e h l q = rw (part_more s i e h l, eq-eqb (get_or s i 0) b q)

-- the rest of a text from a cut index on
pub rest_cut : (s : List ℕ) (a k : ℕ) → k ≡ min a (length s) → take (length s - k) (drop k s) ≡ drop a s
rest_cut s a k e =
    let n : length (drop k s) ≤ length s - k = omega (arith, length-drop k s) in
    take_all (length s - k) (drop k s) n ∙ ap (λ i. drop i s) e ∙ drop_min a s
