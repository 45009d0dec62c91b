-- Tests as the code meets them: one after another, and one of each element of a list.
-- Assumes nothing.
use Prim.Native.Nat.{ℕ, ◌+◌, ◌-◌, ◌≤◌, ◌<◌}
use mathlib.Core.Bool.{Bool, true, false, not, ◌&&◌}
use mathlib.Core.List.{List, [], ◌∷◌}
use mathlib.Core.Path.{◌≡◌, refl, sym, ◌∙◌}
use native.Mathlib.Numerals.{add-one}
use native.Mathlib.Omega.{arith}
use lib.Dec.{eqb, leb}
use lib.ListN.{length, drop, get_or, drop_of_length-le, length-drop}
use lib.Seq.{drop-cons, take_all}
use Rattle.std.specs.List.{list_all}
use Rattle.std.proofs.lemmas.List.Recursion.{same_from_clauses}
use borrow.Author.Tests.{not-true, not-false}
use Rattle.text.specs.Bytes.{part}
use Rattle.lex.specs.Classes.{is_run}
use Rattle.packed.specs.Records.{record_of}
use Rattle.genuine.specs.Fitness.{all_solid, all_run}
use Rattle.genuine.specs.Layout.{all_zero, all_blank, is_blank, is_four}

-- what `!` of a test's answer tells
pub no : {b x : Bool} → b ≡ x → not b ≡ true → x ≡ false
no {b} e h = sym e ∙ not-true b h

pub yes : {b x : Bool} → b ≡ x → not b ≡ false → x ≡ true
yes {b} e h = sym e ∙ not-false b h

-- the part of a list from i to its end
pub part_on : (s : List ℕ) (i : ℕ) {r t : List ℕ} → r ≡ t → t ≡ part s i (length s) → r ≡ drop i s
part_on s i e p = e ∙ p ∙ take_all (length s - i) (drop i s) (omega (arith, length-drop i s))

-- f: whether p holds of each element
pub record Each {A : Type 0} (p : A → Bool) (f : List A → Bool) : Type 0 where
  pub none : f [] ≡ true
  pub some : (x : A) (xs : List A) → f (x ∷ xs) ≡ (p x && f xs)

pub each_list : {A : Type 0} {p : A → Bool} {f : List A → Bool} → Each p f → (w : List A) → list_all p w ≡ f w
each_list {p = p} {f = f} e = same_from_clauses (list_all p) f (λ x b. p x && b) (sym e.none) (λ x w. refl) e.some

module _ {A : Type 0} {p : A → Bool} {f : List A → Bool} (e : Each p f) (w : List A) (i : ℕ) where
  pub each_end : length w ≤ i → true ≡ f (drop i w)
  each_end h = rw (drop_of_length-le w h) (sym e.none)

  module _ (d : A) (h : i < length w) where
    pub each_no : p (get_or w i d) ≡ false → false ≡ f (drop i w)
    each_no q = rw (drop-cons w i d h, e.some, q)

    pub each_next : p (get_or w i d) ≡ true → f (drop (i + 1) w) ≡ f (drop i w)
    each_next q = rw (drop-cons w i d h, add-one, e.some, q)

abbrev pub is_solid : ℕ → Bool
is_solid x = leb 33 x && leb x 126

pub each_solid : Each is_solid all_solid
unfolding all_solid
each_solid = record { none = refl; some = λ x xs. refl }

pub each_run : Each (is_run 36) all_run
unfolding all_run
each_run = record { none = refl; some = λ x xs. refl }

pub each_zero : Each (λ (x : ℕ). eqb x 0) all_zero
unfolding all_zero
each_zero = record { none = refl; some = λ x xs. refl }

pub each_blank : Each (λ (v : List ℕ). is_four v && is_blank (record_of v)) all_blank
unfolding all_blank
each_blank = record { none = refl; some = λ x xs. refl }
