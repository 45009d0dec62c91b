-- Each level of a condition by one step of it, without fuel.
-- Assumes nothing.
use Prim.Native.Nat.{ℕ, zero, suc, ◌+◌, ◌-◌, ◌<◌, ◌≤◌}
use mathlib.Core.Bool.{Bool, true, false, cond, not}
use mathlib.Core.List.{List, []}
use mathlib.Core.Path.{◌≡◌, refl, ap}
use native.Mathlib.Omega.{arith}
use lib.ListN.{length}
use Rattle.std.specs.Prelude.{Ok, Err}
use Rattle.text.specs.Bytes.{bytes, holds}
use Rattle.places.proofs.Levels.{word_level}
use Rattle.directive.specs.Words.{word_start}
use Rattle.conditions.specs.Grammar.{Condition, on_truth, mapped, Operator, none_here, operator, stands, spaced, joined, chain, negated}
use Rattle.conditions.proofs.Parts.{ReadIn, start_level, OperatorIn}

module _ (s : List ℕ) (op : ℕ → Operator) (ops : (p : ℕ) → OperatorIn s p (op p)) (one : ℕ → Condition) (reads : (j : ℕ) → j ≤ length s → ReadIn s j (one j)) where
  -- what follows a value by either fuel, if what is read behind i is the same
  module _ (n k i : ℕ) (same : (q : ℕ) → i < q → q ≤ length s → chain s op one n q ≡ chain s op one k q) where
    joins : (o : Operator) (v : Bool) (p : ℕ) → i < p → OperatorIn s p o → joined s o v p (λ q. chain s op one n q) ≡ joined s o v p (λ q. chain s op one k q)
    unfolding OperatorIn
    joins none_here v p l h = refl
    joins (operator f e) v p l h =
        let b = start_level s e h.inside.within in
        ap (mapped (f v)) (same (word_start s e) (omega (arith, h.inside.past, b.inside.past)) b.inside.within)

    goes_on : (r : Condition) → ReadIn s i r → on_truth r (λ v p. joined s (op p) v p (λ q. chain s op one n q)) ≡ on_truth r (λ v p. joined s (op p) v p (λ q. chain s op one k q))
    unfolding ReadIn
    goes_on (Ok x) h = joins (op x.1) x.0 x.1 h.0 (ops x.1)
    goes_on (Err g) h = refl

  enough : (n k i : ℕ) → i ≤ length s → length s - i < n → length s - i < k → chain s op one n i ≡ chain s op one k i
  unfolding chain
  enough zero k i h a b = absurd (omega arith)
  enough (suc n) zero i h a b = absurd (omega arith)
  enough (suc n) (suc k) i h a b = goes_on n k i (λ q l m. enough n k q m (omega arith) (omega arith)) (one i) (reads i h)

  pub chain_step : (i : ℕ) → i ≤ length s
      → chain s op one (suc (length s)) i ≡ on_truth (one i) (λ v p. joined s (op p) v p (λ q. chain s op one (suc (length s)) q))
  unfolding chain
  chain_step i h = goes_on (length s) (suc (length s)) i (λ q l m. enough (length s) (suc (length s)) q m (omega arith) (omega arith)) (one i) (reads i h)

module _ (s : List ℕ) (one : ℕ → Condition) where
  -- the same by either fuel, if what is read behind a `!` is
  turns : (n k i : ℕ) (b : Bool) → stands s (bytes "!") i ≡ b
      → ((q : ℕ) → i < q → q ≤ length s → negated s one n q ≡ negated s one k q)
      → cond b (mapped not (negated s one n (word_start s (i + 1)))) (spaced s (one i)) ≡ cond b (mapped not (negated s one k (word_start s (i + 1)))) (spaced s (one i))
  unfolding bytes holds
  turns n k i true e f =
      let a = word_level s i 33 [] refl e in
      let b = start_level s (i + 1) a.inside.within in
      ap (mapped not) (f (word_start s (i + 1)) (omega (arith, b.inside.past)) b.inside.within)
  turns n k i false e f = refl

  nots_enough : (n k i : ℕ) → i ≤ length s → length s - i < n → length s - i < k → negated s one n i ≡ negated s one k i
  unfolding negated
  nots_enough zero k i h a b = absurd (omega arith)
  nots_enough (suc n) zero i h a b = absurd (omega arith)
  nots_enough (suc n) (suc k) i h a b = turns n k i (stands s (bytes "!") i) refl (λ q l m. nots_enough n k q m (omega arith) (omega arith))

  pub nots_step : (i : ℕ) → i ≤ length s
      → negated s one (suc (length s)) i ≡ cond (stands s (bytes "!") i) (mapped not (negated s one (suc (length s)) (word_start s (i + 1)))) (spaced s (one i))
  unfolding negated
  nots_step i h = turns (length s) (suc (length s)) i (stands s (bytes "!") i) refl (λ q l m. nots_enough (length s) (suc (length s)) q m (omega arith) (omega arith))
