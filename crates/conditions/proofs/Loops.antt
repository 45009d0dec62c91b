-- What a loop has read of a condition: the whole is what is read from here on, with the values read before put to it.
-- Assumes nothing.
use Prim.Native.Nat.{ℕ, suc, ◌+◌, ◌-◌, ◌<◌, ◌≤◌}
use mathlib.Core.Bool.{Bool, true, false, not, not-not}
use mathlib.Core.List.{List}
use mathlib.Core.Path.{◌≡◌, refl, sym, ap, subst, ◌∙◌}
use native.Mathlib.Omega.{arith}
use lib.ListN.{length, get_or}
use Rattle.std.specs.Prelude.{Ok, Err}
use Rattle.lex.specs.declared.Fault.{Fault}
use Rattle.text.specs.Bytes.{bytes}
use Rattle.places.proofs.Levels.{Level}
use Rattle.definition.specs.Definitions.{Macro}
use Rattle.store.specs.Buffers.{Holds, Stored}
use Rattle.directive.specs.Words.{word_start}
use Rattle.conditions.specs.Grammar.{Condition, is_defined, on_truth, mapped, Operator, none_here, operator, spaced, joined, chain, negated}
use Rattle.conditions.specs.Reading.{differs, Reads}
use Rattle.conditions.proofs.Parts.{ReadIn, start_level, OperatorIn}
use Rattle.conditions.proofs.Steps.{chain_step, nots_step}
use Rattle.conditions.proofs.Signs.{byte_here, other_byte, byte_inside}

mapped_same : (f : Bool → Bool) → ((v : Bool) → f v ≡ v) → (r : Condition) → r ≡ mapped f r
mapped_same f e (Ok x) = ap (λ (b : Bool). Ok (b, x.1)) (sym (e x.0))
mapped_same f e (Err g) = refl

mapped_twice : (f g h : Bool → Bool) → ((v : Bool) → f (g v) ≡ h v) → (r : Condition) → mapped f (mapped g r) ≡ mapped h r
mapped_twice f g h e (Ok x) = ap (λ (b : Bool). Ok (b, x.1)) (e x.0)
mapped_twice f g h e (Err u) = refl

differs_not : (odd v : Bool) → differs odd (not v) ≡ differs (not odd) v
differs_not true v = not-not v
differs_not false v = refl

-- what `part` reads from `at` on is f done to what it reads from i on, by the macros that are stored
pub record ReadsOn (s b : List ℕ) (rows : List (List ℕ)) (n : ℕ) (part : (List ℕ → Bool) → ℕ → Condition) (f : Bool → Bool) (at i : ℕ) : Type 0 where
  pub inside : i ≤ length s
  pub same : (ms : List Macro) → Holds ms b rows n → part (is_defined ms) at ≡ mapped f (part (is_defined ms) i)

-- operators, and what is read between them
pub record ChainOf (s : List ℕ) : Type 0 where
  pub op : ℕ → Operator
  pub op_in : (p : ℕ) → OperatorIn s p (op p)
  pub one : (List ℕ → Bool) → ℕ → Condition
  pub one_in : (d : List ℕ → Bool) (j : ℕ) → j ≤ length s → ReadIn s j (one d j)

abbrev pub chained : {s : List ℕ} → ChainOf s → (List ℕ → Bool) → ℕ → Condition
chained {s} l d i = chain s l.op (l.one d) (suc (length s)) i

pub operator_level : {s : List ℕ} (l : ChainOf s) {p : ℕ} {g : Bool → Bool → Bool} {j : ℕ} → l.op p ≡ operator g j → Level s p j
unfolding OperatorIn
operator_level {s} l {p} o = subst (OperatorIn s p) o (l.op_in p)

module _ {s b : List ℕ} {rows : List (List ℕ)} {n : ℕ} where
  pub reads_start : {part : (List ℕ → Bool) → ℕ → Condition} (f : Bool → Bool) {at : ℕ} → ((v : Bool) → f v ≡ v) → at ≤ length s → ReadsOn s b rows n part f at at
  reads_start f e h = record { inside = h; same = λ ms k. mapped_same f e _ }

  module _ (l : ChainOf s) {f : Bool → Bool} {at i : ℕ} (k : ReadsOn s b rows n (chained l) f at i) {r : Condition} (e : Reads r (λ d. l.one d i) b rows n) where
    -- by what is read next
    by_next : (ms : List Macro) → Holds ms b rows n → chained l (is_defined ms) at ≡ mapped f (on_truth r (λ v p. joined s (l.op p) v p (λ q. chained l (is_defined ms) q)))
    by_next ms h =
        let d = is_defined ms in
        k.same ms h ∙ ap (mapped f) (chain_step s l.op l.op_in (l.one d) (l.one_in d) i k.inside ∙ ap (λ (x : Condition). on_truth x (λ v p. joined s (l.op p) v p (λ q. chained l d q))) (sym (e ms h)))

    pub chain_refused : {g : Fault} → r ≡ Err g → Reads (Err g) (λ d. chained l d at) b rows n
    chain_refused q ms h = sym (rw q at (by_next ms h))

    module _ {v : Bool} {p : ℕ} (q : r ≡ Ok (v, p)) where
      pub chain_ends : l.op p ≡ none_here → {w : Bool} → w ≡ f v → Reads (Ok (w, p)) (λ d. chained l d at) b rows n
      chain_ends o u ms h = ap (λ (x : Bool). Ok (x, p)) u ∙ sym (rw (q, o) at (by_next ms h))

      pub chain_place : Stored b rows n → (i < p) × Level s i p
      unfolding ReadIn
      chain_place st = subst (ReadIn s i) (sym (e st.macros st.holds) ∙ q) (l.one_in (is_defined st.macros) i k.inside)

      module _ {g : Bool → Bool → Bool} {j x : ℕ} (o : l.op p ≡ operator g j) (z : x ≡ word_start s j) where
        pub chain_next : (h : Bool → Bool) → ((w : Bool) → f (g v w) ≡ h w) → ReadsOn s b rows n (chained l) h at x
        chain_next h u =
            rw z
            (record {
              inside = (start_level s j (operator_level l o).inside.within).inside.within;
              same = λ ms m. (rw (q, o) at (by_next ms m)) ∙ mapped_twice f (g v) h u (chained l (is_defined ms) (word_start s j));
            })

        pub chain_less : Stored b rows n → length s - x < length s - i
        chain_less st =
            let a = chain_place st in
            let c = operator_level l o in
            omega (arith, z, a.0, c.inside.past, c.inside.within, (start_level s j c.inside.within).inside.past)

  -- an operand behind any number of `!`
  module _ (one : (List ℕ → Bool) → ℕ → Condition) (odd : Bool) {at i x : ℕ} (k : ReadsOn s b rows n (λ d j. negated s (one d) (suc (length s)) j) (differs odd) at i) (z : x ≡ get_or s i 0) where
    module _ (u : x ≡ 33) {y : ℕ} (v : y ≡ word_start s (i + 1)) where
      start_in : Level s (i + 1) (word_start s (i + 1))
      start_in = start_level s (i + 1) (omega (arith, byte_inside s i 33 (omega arith) z u))

      pub nots_next : ReadsOn s b rows n (λ d j. negated s (one d) (suc (length s)) j) (differs (not odd)) at y
      unfolding bytes
      nots_next =
          rw v
          (record {
            inside = start_in.inside.within;
            same = λ ms h.
                k.same ms h
                ∙ ap (mapped (differs odd)) (rw (byte_here s i 33 (omega arith) z u) at (nots_step s (one (is_defined ms)) i k.inside))
                ∙ mapped_twice (differs odd) not (differs (not odd)) (differs_not odd) (negated s (one (is_defined ms)) (suc (length s)) (word_start s (i + 1)));
          })

      pub nots_less : length s - y < length s - i
      nots_less = omega (arith, v, byte_inside s i 33 (omega arith) z u, start_in.inside.past)

    pub nots_end : (x ≡ 33 → ⊥) → {r y : Condition} → Reads y (λ d. one d i) b rows n → r ≡ mapped (differs odd) (spaced s y) → Reads r (λ d. negated s (one d) (suc (length s)) at) b rows n
    unfolding bytes
    nots_end u e q ms h =
        q ∙ sym (k.same ms h ∙ ap (mapped (differs odd)) (rw (other_byte s i 33 (omega arith) z u, sym (e ms h)) at (nots_step s (one (is_defined ms)) i k.inside)))
