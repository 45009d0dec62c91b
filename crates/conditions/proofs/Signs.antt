-- A word that stands at a place, by its bytes: a read past the text's end gives 0, which is in no word.
-- Assumes nothing.
use Prim.Native.Nat.{ℕ, ◌+◌, ◌<◌}
use mathlib.Core.Bool.{Bool, true, false, ◌&&◌, and-true}
use mathlib.Core.List.{List, [], ◌∷◌}
use mathlib.Core.Path.{◌≡◌, refl, sym, ◌∙◌}
use native.Mathlib.Numerals.{add-one}
use native.Mathlib.Omega.{arith}
use lib.Dec.{eqb, ltb}
use lib.ListN.{length, get_or, drop, drop_of_length-le, get_or-eq_default}
use lib.Seq.{drop-cons}
use borrow.Author.Tests.{ltb-true, ltb-false, eq-eqb, ne_eqb}
use Rattle.text.specs.Bytes.{begins}
use Rattle.lex.proofs.Tests.{read_within}

module _ (s : List ℕ) (i a : ℕ) (h : 0 < a) where
  pub begins_byte : (w : List ℕ) → begins (drop i s) (a ∷ w) ≡ (eqb (get_or s i 0) a && begins (drop (i + 1) s) w)
  unfolding begins
  begins_byte w = go (ltb i (length s)) refl
    where
      go : (b : Bool) → ltb i (length s) ≡ b → begins (drop i s) (a ∷ w) ≡ (eqb (get_or s i 0) a && begins (drop (i + 1) s) w)
      go true q = rw (add-one i, drop-cons s i 0 (ltb-true i (length s) q))
      go false q =
          let l = ltb-false i (length s) q in
          rw (drop_of_length-le s l, get_or-eq_default s 0 l, ne_eqb 0 a (λ e. absurd (omega arith)))

  -- a word of one byte
  pub one_byte : begins (drop i s) (a ∷ []) ≡ eqb (get_or s i 0) a
  unfolding begins
  one_byte = begins_byte [] ∙ and-true (eqb (get_or s i 0) a)

  module _ {x : ℕ} (z : x ≡ get_or s i 0) where
    pub byte_here : x ≡ a → begins (drop i s) (a ∷ []) ≡ true
    byte_here e = one_byte ∙ eq-eqb (get_or s i 0) a (sym z ∙ e)

    pub other_byte : (x ≡ a → ⊥) → begins (drop i s) (a ∷ []) ≡ false
    other_byte e = one_byte ∙ ne_eqb (get_or s i 0) a (λ q. e (z ∙ q))

    pub byte_inside : x ≡ a → i < length s
    byte_inside e = read_within (λ b. eqb b a) (ne_eqb 0 a (λ q. absurd (omega arith))) s i (eq-eqb (get_or s i 0) a (sym z ∙ e))
