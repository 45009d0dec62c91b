-- Where a condition ends, and whether and where it is refused, do not depend on what is defined.
-- Assumes nothing.
use Prim.Native.Nat.{ℕ, zero, suc, ◌+◌}
use mathlib.Core.Bool.{Bool, true, false, cond, not, ◌&&◌, ◌||◌}
use mathlib.Core.List.{List}
use lib.Dec.{eqb}
use lib.ListN.{length}
use Rattle.std.specs.Prelude.{Ok, Err}
use Rattle.text.specs.Bytes.{bytes}
use Rattle.lex.specs.declared.Token.{Token}
use Rattle.lex.specs.Tokens.{in_file, Name, Escaped, is, token_at}
use Rattle.directive.specs.Words.{word_start}
use Rattle.conditions.specs.Forms.{SameForm, same_end, same_refusal}
use Rattle.conditions.specs.Grammar.{Condition, on_truth, mapped, Operator, none_here, operator, stands, and_at, or_at, arrow_at, spaced, joined, chain, negated, name_at, operand, arrows_by, closed, parentheses_at, condition_at}

same_self : (r : Condition) → SameForm r r
same_self (Ok x) = same_end
same_self (Err g) = same_refusal

-- a choice by a test of the text alone
same_choice : (b : Bool) {x y x' y' : Condition} → SameForm x x' → SameForm y y' → SameForm (cond b x y) (cond b x' y')
same_choice true f g = f
same_choice false f g = g

same_on : {r r' : Condition} {k k' : Bool → ℕ → Condition} → SameForm r r' → ((v w : Bool) (p : ℕ) → SameForm (k v p) (k' w p)) → SameForm (on_truth r k) (on_truth r' k')
same_on same_end g = g _ _ _
same_on same_refusal g = same_refusal

module _ (s : List ℕ) where
  same_mapped : (f g : Bool → Bool) {r r' : Condition} → SameForm r r' → SameForm (mapped f r) (mapped g r')
  same_mapped f g h = same_on h (λ v w p. same_end)

  same_spaced : {r r' : Condition} → SameForm r r' → SameForm (spaced s r) (spaced s r')
  same_spaced h = same_on h (λ v w p. same_end)

  same_closed : {r r' : Condition} → SameForm r r' → SameForm (closed s r) (closed s r')
  same_closed h = same_on h (λ v w p. same_choice (stands s (bytes ")") p) same_end (same_self _))

  same_joined : (o : Operator) (v w : Bool) (p : ℕ) {rest rest' : ℕ → Condition} → ((q : ℕ) → SameForm (rest q) (rest' q)) → SameForm (joined s o v p rest) (joined s o w p rest')
  same_joined none_here v w p g = same_end
  same_joined (operator f e) v w p g = same_mapped (f v) (f w) (g (word_start s e))

  module _ {one one' : ℕ → Condition} (h : (j : ℕ) → SameForm (one j) (one' j)) where
    same_chain : (op : ℕ → Operator) (n i : ℕ) → SameForm (chain s op one n i) (chain s op one' n i)
    unfolding chain
    same_chain op zero i = same_refusal
    same_chain op (suc n) i = same_on (h i) (λ v w p. same_joined (op p) v w p (λ q. same_chain op n q))

    same_negated : (n i : ℕ) → SameForm (negated s one n i) (negated s one' n i)
    unfolding negated
    same_negated zero i = same_refusal
    same_negated (suc n) i = same_choice (stands s (bytes "!") i) (same_mapped not not (same_negated n (word_start s (i + 1)))) (same_spaced (h i))

  module _ (d d' : List ℕ → Bool) where
    same_name : (q i : ℕ) → SameForm (name_at s d q i) (name_at s d' q i)
    unfolding name_at
    same_name q i =
        let t = token_at in_file s i in
        same_choice (eqb t.bar 0 && (is Name t || is Escaped t)) same_end (same_self _)

    module _ {group group' : ℕ → Condition} (g : (j : ℕ) → SameForm (group j) (group' j)) where
      same_operand : (q i : ℕ) → SameForm (operand s d group q i) (operand s d' group' q i)
      same_operand q i = same_choice (stands s (bytes "(") i) (g i) (same_name q i)

      same_arrows : (i : ℕ) → SameForm (arrows_by s d group i) (arrows_by s d' group' i)
      same_arrows i =
          same_chain
          (λ j. same_chain (λ k. same_chain (λ m. same_negated (λ o. same_operand o o) (suc (length s)) m) (and_at s) (suc (length s)) k) (or_at s) (suc (length s)) j)
          (arrow_at s) (suc (length s)) i

    same_parentheses : (n i : ℕ) → SameForm (parentheses_at s d n i) (parentheses_at s d' n i)
    unfolding parentheses_at
    same_parentheses zero i = same_refusal
    same_parentheses (suc n) i = same_closed (same_arrows (same_parentheses n) (word_start s (i + 1)))

    pub same_form : (t : Token) → SameForm (condition_at s d t) (condition_at s d' t)
    unfolding condition_at
    same_form t = same_operand (same_parentheses 32) t.at (word_start s t.end)
