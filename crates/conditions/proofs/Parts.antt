-- What is read of a condition: a part on one line that ends behind its start; or it is refused by one of 2 to 7, at a place
-- in the text.
-- Assumes nothing.
use Prim.Native.Nat.{ℕ, zero, suc, ◌+◌, ◌<◌, ◌≤◌}
use mathlib.Core.Bool.{Bool, true, false, cond, not, ◌&&◌, ◌||◌}
use mathlib.Core.List.{List, [], ◌∷◌}
use mathlib.Core.Path.{◌≡◌, refl, subst}
use native.Mathlib.Omega.{arith}
use lib.Dec.{eqb, leb}
use lib.ListN.{length, drop_of_length-le}
use Rattle.std.specs.Prelude.{Ok, Err}
use borrow.Author.Tests.{leb-true, leb-false, not-true}
use Rattle.text.specs.Bytes.{bytes, begins, holds}
use Rattle.lex.specs.declared.Token.{Token}
use Rattle.lex.specs.Faults.{fault}
use Rattle.lex.specs.Tokens.{in_file, Newline, BlockComment, String, Name, Escaped, White, LineComment, Continuation, is, is_gap, name_of, token_at}
use Rattle.lex.proofs.Tests.{by_test, and_left, and_right}
use Rattle.lex.proofs.Progress.{token_past, token-at, token_ends}
use Rattle.lex.proofs.Barring.{token_bars}
use Rattle.directive.proofs.Wording.{start_out, by_start}
use Rattle.definition.proofs.Formals.{kind_inside}
use Rattle.places.proofs.Levels.{Level, level_here, level_on, other_kind, token_level, word_level}
use Rattle.directive.specs.Words.{word_start}
use Rattle.conditions.specs.Grammar.{Condition, on_truth, mapped, unfit, Operator, none_here, operator, implies, equivalent, stands, and_at, or_at, arrow_at, spaced, joined, chain, negated, name_at, operand, nots_by, ands_by, ors_by, arrows_by, closed, parentheses_at, condition_at}

abbrev gap_kind : ℕ → Bool
gap_kind k = eqb k White || (eqb k LineComment || (eqb k BlockComment || eqb k Continuation))

-- one of 2 to 7, at a place in the text or at its end
pub record RefusedIn (s : List ℕ) (n p : ℕ) : Type 0 where
  pub low : 2 ≤ n
  pub high : n ≤ 7
  pub place_in : p ≤ length s

module _ (s : List ℕ) where
  -- what is read from i on
  unfoldable pub ReadIn : ℕ → Condition → Type 0
  ReadIn i (Ok x) = (i < x.1) × Level s i x.1
  ReadIn i (Err g) = RefusedIn s g.number g.place

  -- white bytes and comments before the next word hold no newline
  pub start_level : (i : ℕ) → i ≤ length s → Level s i (word_start s i)
  start_level i h =
      by_start s (Level s i)
      (λ j l e p. let t = token_at in_file s j in
      let a = and_right (eqb t.bar 0) _ e in
      let b = and_left (is_gap t) _ a in
      level_on p
      (token_level in_file refl s j l (other_kind gap_kind Newline refl t.kind b) (other_kind gap_kind String refl t.kind b) (not-true _ (and_right (is_gap t) _ a)))) i
      (level_here s i h)

  -- ---- parts of a condition

  -- f done to the value
  pub mapped_in : (f : Bool → Bool) (i : ℕ) (r : Condition) → ReadIn i r → ReadIn i (mapped f r)
  unfolding ReadIn
  mapped_in f i (Ok x) h = h
  mapped_in f i (Err g) h = h

  -- the same from an earlier place on
  pub earlier : (i j : ℕ) (r : Condition) → Level s i j → ReadIn j r → ReadIn i r
  unfolding ReadIn
  earlier i j (Ok x) l h = (omega (arith, l.inside.past, h.0), level_on l h.1)
  earlier i j (Err g) l h = h

  pub on-truth : (i : ℕ) (r : Condition) (k : Bool → ℕ → Condition) → ReadIn i r → ((v : Bool) (p : ℕ) → i < p → Level s i p → ReadIn i (k v p)) → ReadIn i (on_truth r k)
  unfolding ReadIn
  on-truth i (Ok x) k h g = g x.0 x.1 h.0 h.1
  on-truth i (Err u) k h g = h

  -- white bytes and comments behind a part
  pub spaced_in : (i : ℕ) (r : Condition) → ReadIn i r → ReadIn i (spaced s r)
  unfolding ReadIn
  spaced_in i r h =
      on-truth i r (λ v p. Ok (v, word_start s p)) h
      (λ v p l a. let b = start_level p a.inside.within in (omega (arith, b.inside.past), level_on a b))

  -- an operator at p
  unfoldable pub OperatorIn : ℕ → Operator → Type 0
  OperatorIn p none_here = Unit {0}
  OperatorIn p (operator f e) = Level s p e

  word_in : (p b : ℕ) (w : List ℕ) (f : Bool → Bool → Bool) → holds 10 (b ∷ w) ≡ false → stands s (b ∷ w) p ≡ true → OperatorIn p (operator f (p + length (b ∷ w)))
  unfolding OperatorIn
  word_in p b w f n e = word_level s p b w n e

  pub and_in : (p : ℕ) → OperatorIn p (and_at s p)
  unfolding OperatorIn and_at bytes holds
  and_in p = by_test (OperatorIn p) (stands s (bytes "&&") p) (λ e. word_in p 38 (38 ∷ []) ◌&&◌ refl e) (λ e. tt)

  pub or_in : (p : ℕ) → OperatorIn p (or_at s p)
  unfolding OperatorIn or_at bytes holds
  or_in p = by_test (OperatorIn p) (stands s (bytes "||") p) (λ e. word_in p 124 (124 ∷ []) ◌||◌ refl e) (λ e. tt)

  pub arrow_in : (p : ℕ) → OperatorIn p (arrow_at s p)
  unfolding OperatorIn arrow_at bytes holds
  arrow_in p =
      by_test (OperatorIn p) (stands s (bytes "->") p) (λ e. word_in p 45 (62 ∷ []) implies refl e)
      (λ e. by_test (OperatorIn p) (stands s (bytes "<->") p) (λ e. word_in p 60 (45 ∷ 62 ∷ []) equivalent refl e) (λ e. tt))

  -- a value up to p, and what is read behind the operator there
  pub joined_in : (i p : ℕ) (o : Operator) (v : Bool) (rest : ℕ → Condition) → i < p → Level s i p → OperatorIn p o → ((q : ℕ) → i < q → q ≤ length s → ReadIn q (rest q))
      → ReadIn i (joined s o v p rest)
  unfolding ReadIn OperatorIn
  joined_in i p none_here v rest l a h g = (l, a)
  joined_in i p (operator f e) v rest l a h g =
      let b = start_level e h.inside.within in
      let c = level_on a (level_on h b) in
      mapped_in (f v) i (rest (word_start s e)) (earlier i (word_start s e) (rest (word_start s e)) c (g (word_start s e) (omega (arith, h.inside.past, b.inside.past)) b.inside.within))

  module _ (one : ℕ → Condition) (reads : (j : ℕ) → j ≤ length s → ReadIn j (one j)) where
    pub chain_in : (op : ℕ → Operator) → ((p : ℕ) → OperatorIn p (op p)) → (n i : ℕ) → i ≤ length s → ReadIn i (chain s op one n i)
    unfolding ReadIn chain
    chain_in op o zero i h = record { low = omega arith; high = omega arith; place_in = h }
    chain_in op o (suc n) i h =
        on-truth i (one i) _ (reads i h) (λ v p l a. joined_in i p (op p) v _ l a (o p) (λ q k m. chain_in op o n q m))

    pub negated_in : (n i : ℕ) → i ≤ length s → ReadIn i (negated s one n i)
    unfolding ReadIn negated bytes holds
    negated_in zero i h = record { low = omega arith; high = omega arith; place_in = h }
    negated_in (suc n) i h =
        by_test (ReadIn i) (stands s (bytes "!") i)
        (λ e. let a = word_level s i 33 [] refl e in
        let b = start_level (i + 1) a.inside.within in
        let r = negated s one n (word_start s (i + 1)) in
        mapped_in not i r (earlier i (word_start s (i + 1)) r (level_on a b) (negated_in n (word_start s (i + 1)) b.inside.within)))
        (λ e. spaced_in i (one i) (reads i h))

  -- a token that does not fit
  pub unfit_in : (q i : ℕ) → q ≤ length s → i ≤ length s → RefusedIn s 7 q × (eqb (token_at in_file s i).bar 0 ≡ false → RefusedIn s (token_at in_file s i).bar (token_at in_file s i).at)
  unfit_in q i h g = (
    record { low = omega arith; high = omega arith; place_in = h },
    λ e. record { low = (token_bars s i in_file).least e; high = omega (arith, (token_bars s i in_file).most); place_in = omega (arith, token-at in_file s i) },
  )

  pub unfit_read : (k q i : ℕ) → q ≤ length s → i ≤ length s → ReadIn k (unfit (token_at in_file s i) q)
  unfolding ReadIn
  unfit_read k q i h g = by_test (ReadIn k) (eqb (token_at in_file s i).bar 0) (λ e. (unfit_in q i h g).0) (λ e. (unfit_in q i h g).1 e)

  pub closed_in : (i : ℕ) (r : Condition) → ReadIn i r → ReadIn i (closed s r)
  unfolding ReadIn bytes holds
  closed_in i r h =
      on-truth i r _ h
      (λ v p l a. by_test (ReadIn i) (stands s (bytes ")") p) (λ e. (omega arith, level_on a (word_level s p 41 [] refl e)))
      (λ e. unfit_read i p p a.inside.within a.inside.within))

  module _ (defined : List ℕ → Bool) where
    name_inside : (i : ℕ) → (is Name (token_at in_file s i) || is Escaped (token_at in_file s i)) ≡ true → i < length s
    name_inside i e = go (is Name (token_at in_file s i)) refl
      where
        go : (b : Bool) → is Name (token_at in_file s i) ≡ b → i < length s
        go true q = kind_inside in_file s i Name refl q
        go false q = kind_inside in_file s i Escaped refl (rw q at e)

    pub name_in : (q i : ℕ) → q ≤ length s → i ≤ length s → ReadIn i (name_at s defined q i)
    unfolding ReadIn name_at
    name_in q i h g =
        let t = token_at in_file s i in
        by_test (ReadIn i) (eqb t.bar 0 && (is Name t || is Escaped t))
        (λ e. let k = and_right (eqb t.bar 0) (is Name t || is Escaped t) e in
        let l = name_inside i k in (
          token_ends in_file s i l,
          token_level in_file refl s i l (other_kind (λ b. eqb b Name || eqb b Escaped) Newline refl t.kind k)
              (other_kind (λ b. eqb b Name || eqb b Escaped) String refl t.kind k) (rw (other_kind (λ b. eqb b Name || eqb b Escaped) BlockComment refl t.kind k)),
        ))
        (λ e. unfit_read i q i h g)

    pub operand_in : (group : ℕ → Condition) → ((j : ℕ) → Level s j (j + 1) → ReadIn j (group j)) → (q i : ℕ) → q ≤ length s → i ≤ length s → ReadIn i (operand s defined group q i)
    unfolding bytes holds
    operand_in group g q i h l =
        by_test (ReadIn i) (stands s (bytes "(") i) (λ e. g i (word_level s i 40 [] refl e)) (λ e. name_in q i h l)

    module _ (group : ℕ → Condition) (g : (j : ℕ) → Level s j (j + 1) → ReadIn j (group j)) where
      pub nots_in : (i : ℕ) → i ≤ length s → ReadIn i (nots_by s defined group i)
      nots_in i = negated_in (λ j. operand s defined group j j) (λ j h. operand_in group g j j h h) (suc (length s)) i

      pub ands_in : (i : ℕ) → i ≤ length s → ReadIn i (ands_by s defined group i)
      ands_in i = chain_in (nots_by s defined group) nots_in (and_at s) and_in (suc (length s)) i

      pub ors_in : (i : ℕ) → i ≤ length s → ReadIn i (ors_by s defined group i)
      ors_in i = chain_in (ands_by s defined group) ands_in (or_at s) or_in (suc (length s)) i

      pub arrows_in : (i : ℕ) → i ≤ length s → ReadIn i (arrows_by s defined group i)
      arrows_in i = chain_in (ors_by s defined group) ors_in (arrow_at s) arrow_in (suc (length s)) i

    -- from a `(` on, a byte that is no newline
    pub parentheses_in : (n i : ℕ) → Level s i (i + 1) → ReadIn i (parentheses_at s defined n i)
    unfolding ReadIn parentheses_at
    parentheses_in zero i a = record { low = omega arith; high = omega arith; place_in = omega (arith, a.inside.within) }
    parentheses_in (suc n) i a =
        let b = start_level (i + 1) a.inside.within in
        let r = arrows_by s defined (parentheses_at s defined n) (word_start s (i + 1)) in
        closed_in i r
        (earlier i (word_start s (i + 1)) r (level_on a b) (arrows_in (parentheses_at s defined n) (parentheses_in n) (word_start s (i + 1)) b.inside.within))

    condition_in : (t : Token) (q : ℕ) → q ≤ length s → t.end ≤ length s → ReadIn t.end (operand s defined (parentheses_at s defined 32) q (word_start s t.end))
    condition_in t q h l =
        let b = start_level t.end l in
        earlier t.end (word_start s t.end) _ b (operand_in (parentheses_at s defined 32) (parentheses_in 32) q (word_start s t.end) h b.inside.within)

    pub condition_refused : (t : Token) → t.at ≤ length s → t.end ≤ length s → (n p : ℕ) → condition_at s defined t ≡ Err (fault n p) → RefusedIn s n p
    unfolding condition_at ReadIn
    condition_refused t h l n p q = subst (ReadIn t.end) q (condition_in t t.at h l)

    -- a truth value does not depend on the place of 7
    placed : (group : ℕ → Condition) (q i : ℕ) (v : Bool) (e : ℕ) → operand s defined group q i ≡ Ok (v, e) → operand s defined group 0 i ≡ Ok (v, e)
    unfolding name_at
    placed group q i v e =
        let t = token_at in_file s i in
        go (stands s (bytes "(") i) (eqb t.bar 0 && (is Name t || is Escaped t)) (eqb t.bar 0) (group i) (Ok (defined (name_of s t), t.end)) t.bar t.at
      where
        go : (a b c : Bool) (x y : Condition) (n p : ℕ) → cond a x (cond b y (cond c (Err (fault 7 q)) (Err (fault n p)))) ≡ Ok (v, e)
            → cond a x (cond b y (cond c (Err (fault 7 0)) (Err (fault n p)))) ≡ Ok (v, e)
        go true b c x y n p h = h
        go false true c x y n p h = h
        go false false true x y n p h = let z : ◌≡◌ {A = ℕ} 0 1 = cc in absurd (omega arith)
        go false false false x y n p h = h

    module _ (t : Token) (v : Bool) (e : ℕ) (q : condition_at s defined t ≡ Ok (v, e)) where
      -- a conditional word and its condition stand on one line
      pub condition_level : t.end ≤ length s → Level s t.end e
      unfolding condition_at ReadIn
      condition_level l =
          (subst (ReadIn t.end) (placed (parentheses_at s defined 32) t.at (word_start s t.end) v e q) (condition_in t 0 (omega arith) l)).1

      none_past : length s < t.end → ⊥
      unfolding condition_at name_at bytes begins
      none_past l =
          let a : length s ≤ t.end = omega arith in
          let z : ◌≡◌ {A = Condition} (Err (fault 7 t.at)) (Ok (v, e)) = rw (start_out s t.end a, drop_of_length-le s a, token_past in_file s t.end a) at q in
          let y : ◌≡◌ {A = ℕ} 0 1 = cc in
          omega arith

      pub condition_past : t.end ≤ e
      condition_past = go (leb t.end (length s)) refl
        where
          go : (b : Bool) → leb t.end (length s) ≡ b → t.end ≤ e
          go true b = (condition_level (leb-true t.end (length s) b)).inside.past
          go false b = absurd (none_past (leb-false t.end (length s) b))
