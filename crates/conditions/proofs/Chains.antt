-- The levels of a condition, by the tests of the code, and the values that its loops keep.
-- Assumes nothing.
use Prim.Native.Nat.{ℕ, ◌+◌}
use mathlib.Core.Bool.{Bool, true, false, cond, not, ◌&&◌, ◌||◌, or-false}
use mathlib.Core.List.{List, [], ◌∷◌}
use mathlib.Core.Path.{◌≡◌, refl, sym, ◌∙◌}
use lib.ListN.{drop}
use borrow.Author.Tests.{not-true, not-false}
use Rattle.text.specs.Bytes.{bytes, begins}
use Rattle.conditions.specs.Grammar.{Condition, none_here, operator, implies, equivalent, and_at, or_at, arrow_at, operand, nots_by, ands_by, ors_by, parentheses_at}
use Rattle.conditions.proofs.Parts.{and_in, or_in, arrow_in, nots_in, ands_in, ors_in, parentheses_in}
use Rattle.conditions.proofs.Loops.{ChainOf}

module _ (s : List ℕ) (left : ℕ) where
  abbrev pub operand_of : (List ℕ → Bool) → ℕ → Condition
  operand_of d i = operand s d (parentheses_at s d left) i i

  abbrev pub ands_of : ChainOf s
  ands_of = record {
    op = and_at s;
    op_in = and_in s;
    one = λ d. nots_by s d (parentheses_at s d left);
    one_in = λ d. nots_in s d (parentheses_at s d left) (parentheses_in s d left);
  }

  abbrev pub ors_of : ChainOf s
  ors_of = record {
    op = or_at s;
    op_in = or_in s;
    one = λ d. ands_by s d (parentheses_at s d left);
    one_in = λ d. ands_in s d (parentheses_at s d left) (parentheses_in s d left);
  }

  abbrev pub arrows_of : ChainOf s
  arrows_of = record {
    op = arrow_at s;
    op_in = arrow_in s;
    one = λ d. ors_by s d (parentheses_at s d left);
    one_in = λ d. ors_in s d (parentheses_at s d left) (parentheses_in s d left);
  }

module _ (s : List ℕ) (p : ℕ) {x : Bool} where
  module _ (e : x ≡ begins (drop p s) (38 ∷ 38 ∷ [])) where
    pub and_here : not x ≡ false → and_at s p ≡ operator ◌&&◌ (p + 2)
    unfolding and_at bytes
    and_here u = rw (sym e ∙ not-false x u)

    pub no_and : not x ≡ true → and_at s p ≡ none_here
    unfolding and_at bytes
    no_and u = rw (sym e ∙ not-true x u)

  module _ (e : x ≡ begins (drop p s) (124 ∷ 124 ∷ [])) where
    pub or_here : not x ≡ false → or_at s p ≡ operator ◌||◌ (p + 2)
    unfolding or_at bytes
    or_here u = rw (sym e ∙ not-false x u)

    pub no_or : not x ≡ true → or_at s p ≡ none_here
    unfolding or_at bytes
    no_or u = rw (sym e ∙ not-true x u)

  module _ (e : x ≡ begins (drop p s) (45 ∷ 62 ∷ [])) where
    pub implies_here : x ≡ true → arrow_at s p ≡ operator implies (p + 2)
    unfolding arrow_at bytes
    implies_here u = rw (sym e ∙ u)

    module _ (u : x ≡ false) {y : Bool} (f : y ≡ begins (drop p s) (60 ∷ 45 ∷ 62 ∷ [])) where
      pub equivalent_here : y ≡ true → arrow_at s p ≡ operator equivalent (p + 3)
      unfolding arrow_at bytes
      equivalent_here w = rw (sym e ∙ u, sym f ∙ w)

      pub no_arrow : y ≡ false → arrow_at s p ≡ none_here
      unfolding arrow_at bytes
      no_arrow w = rw (sym e ∙ u, sym f ∙ w)

-- the value of the whole is n or y, if what is still to be read is false or true
pub at_first : (v : Bool) → cond v true false ≡ v
at_first true = refl
at_first false = refl

pub by_value : (n y v : Bool) → (v && y || not v && n) ≡ cond v y n
by_value n y true = or-false y
by_value n y false = refl

-- .. behind an arrow whose left side is v
pub implied : (n y v w : Bool) → cond (implies v w) y n ≡ cond w y (v && n || not v && y)
implied n y true true = refl
implied n y true false = sym (or-false n)
implied n y false true = refl
implied n y false false = refl

pub equal : (n y v w : Bool) → cond (equivalent v w) y n ≡ cond w (v && y || not v && n) (v && n || not v && y)
equal n y true true = sym (or-false y)
equal n y true false = sym (or-false n)
equal n y false true = refl
equal n y false false = refl
