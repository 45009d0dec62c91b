-- An operand, and what stands in parentheses, by the bytes that are read.
-- Assumes nothing.
use Prim.Native.Nat.{ℕ, zero, suc, ◌+◌, ◌-◌}
use mathlib.Core.Bool.{Bool}
use mathlib.Core.List.{List}
use mathlib.Core.Path.{◌≡◌, refl, sym, ◌∙◌}
use native.Mathlib.Omega.{arith}
use lib.ListN.{get_or}
use Rattle.std.specs.Prelude.{Ok, Err}
use Rattle.text.specs.Bytes.{bytes}
use Rattle.lex.specs.declared.Fault.{Fault}
use Rattle.lex.specs.Tokens.{in_file, token_at}
use Rattle.directive.specs.Words.{word_start}
use Rattle.conditions.specs.Grammar.{Condition, unfit, name_at, operand, arrows_by, closed, parentheses_at}
use Rattle.conditions.specs.Reading.{Reads}
use Rattle.conditions.proofs.Signs.{byte_here, other_byte}

parentheses_step : (s : List ℕ) (d : List ℕ → Bool) (left at : ℕ) → (left ≡ 0 → ⊥) → parentheses_at s d left at ≡ closed s (arrows_by s d (parentheses_at s d (left - 1)) (word_start s (at + 1)))
unfolding parentheses_at
parentheses_step s d zero at h = absurd (h refl)
parentheses_step s d (suc left) at h = let e : suc left - 1 ≡ left = omega arith in rw e

module _ (s : List ℕ) {b : List ℕ} {rows : List (List ℕ)} {n : ℕ} where
  module _ (left q i : ℕ) {x : ℕ} (z : x ≡ get_or s i 0) {r : Condition} where
    pub opens : x ≡ 40 → Reads r (λ d. parentheses_at s d left i) b rows n → Reads r (λ d. operand s d (parentheses_at s d left) q i) b rows n
    unfolding bytes
    opens u e ms h = rw (byte_here s i 40 (omega arith) z u) (e ms h)

    pub names : (x ≡ 40 → ⊥) → Reads r (λ d. name_at s d q i) b rows n → Reads r (λ d. operand s d (parentheses_at s d left) q i) b rows n
    unfolding bytes
    names u e ms h = rw (other_byte s i 40 (omega arith) z u) (e ms h)

  module _ (left at : ℕ) (some : left ≡ 0 → ⊥) {i : ℕ} (w : i ≡ word_start s (at + 1)) {r : Condition} (e : Reads r (λ d. arrows_by s d (parentheses_at s d (left - 1)) i) b rows n) where
    by_arrows : Reads (closed s r) (λ d. parentheses_at s d left at) b rows n
    by_arrows ms h = sym (parentheses_step s _ left at some ∙ rw (← w, ← e ms h))

    pub closes_refused : {g : Fault} → r ≡ Err g → Reads (Err g) (λ d. parentheses_at s d left at) b rows n
    closes_refused q ms h = rw q at (by_arrows ms h)

    module _ {v : Bool} {p x : ℕ} (q : r ≡ Ok (v, p)) (z : x ≡ get_or s p 0) where
      pub closes : x ≡ 41 → Reads (Ok (v, p + 1)) (λ d. parentheses_at s d left at) b rows n
      unfolding bytes
      closes u ms h = rw (q, byte_here s p 41 (omega arith) z u) at (by_arrows ms h)

      pub closes_not : (x ≡ 41 → ⊥) → {y : Condition} → y ≡ unfit (token_at in_file s p) p → Reads y (λ d. parentheses_at s d left at) b rows n
      unfolding bytes
      closes_not u t ms h = t ∙ (rw (q, other_byte s p 41 (omega arith) z u) at (by_arrows ms h))
