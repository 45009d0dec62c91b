-- Walks from macro to macro along usages; in a set that passes, the longest chain grows shorter along a usage.
-- Assumes nothing.
use Prim.Native.Nat.{ℕ, zero, suc, ◌+◌, ◌<◌, ◌≤◌, max}
use native.Mathlib.Omega.{arith}
use mathlib.Core.Path.{◌≡◌, refl, sym, ap, subst}
use mathlib.Core.Bool.{Bool, true, false, cond, ◌||◌}
use mathlib.Core.Logic.{◌⊎◌, inl, inr}
use mathlib.Core.Option.{Option, none, some}
use mathlib.Core.List.Memᴰ.{head as first}
use mathlib.Core.List.Memᴰ.{tail as later}
use mathlib.Core.List.{List, [], ◌∷◌, Memᴰ as In}
use lib.Dec.{eqb}
use lib.ListN.{length}
use borrow.Author.Tests.{eqb-true, eqb-false, eq-eqb}
use Rattle.definition.specs.Definitions.{Macro}
use Rattle.store.specs.Stores.{find}
use Rattle.std.proofs.Common.{Result, Ok, Err}
use Rattle.store.proofs.Ordering.{find_at_lt}
use Rattle.pending.specs.Pending.{Pending, view}
use Rattle.pending.proofs.Viewing.{by_usage}
use Rattle.passing.specs.Passing.{text_fault, used_by, uses_in, text_at, uses, reaches_any, reaches, macro_fault, yes, pass_at, pass_from, pass_of}
use Rattle.passing.specs.Chains.{longest, chain_of, chain}
use Rattle.passing.specs.Meaning.{Walk, stay, step}
use Rattle.passing.proofs.Lists.{views}
use Rattle.passing.proofs.Good.{Fine}
use Rattle.passing.proofs.Usages.{next_left, next_right, fine_text}
use Rattle.passing.proofs.Pigeon.{Twice, now, after, Below, below_nil, below_cons, pigeon, none_twice}

module _ (ms : List Macro) where
  -- ---- a macro of a set that passes

  pub from_good : (k i j : ℕ) → pass_from ms i k ≡ yes → i ≤ j → j < i + k → macro_fault ms j ≡ none
  unfolding pass_from
  from_good zero i j h a b = absurd (omega arith)
  from_good (suc k) i j h a b = go (macro_fault ms i) refl h (eqb i j) refl (from_good k (suc i) j)
    where
      go : (n : Option ℕ) → macro_fault ms i ≡ n → pass_at n i (pass_from ms (suc i) k) ≡ yes → (e : Bool) → eqb i j ≡ e
          → (pass_from ms (suc i) k ≡ yes → suc i ≤ j → j < suc i + k → macro_fault ms j ≡ none) → macro_fault ms j ≡ none
      go none m q true e ih = subst (λ (z : ℕ). macro_fault ms z ≡ none) (eqb-true i j e) m
      go none m q false e ih = let ne : i ≡ j → ⊥ = eqb-false i j e in ih q (omega arith) (omega arith)
      go (some n) m q e d ih = absurd (let z : ◌≡◌ {A = ℕ} 0 1 = cc in omega arith)

  pub record Sound (i : ℕ) : Type 0 where
    pub text : Fine ms (views (text_at ms i))
    pub apart : reaches ms (length ms) i i ≡ false

  sound_good : (i : ℕ) → macro_fault ms i ≡ none → Sound i
  unfolding macro_fault
  sound_good i h =
      record {
        text = fine_text ms (text_at ms i) (next_left (text_fault ms (text_at ms i)) (cond (reaches ms (length ms) i i) (some 16) none) h);
        apart = go (reaches ms (length ms) i i) refl (next_right (text_fault ms (text_at ms i)) (cond (reaches ms (length ms) i i) (some 16) none) h);
      }
    where
      go : (b : Bool) → reaches ms (length ms) i i ≡ b → ◌≡◌ {A = Option ℕ} (cond b (some 16) none) none → reaches ms (length ms) i i ≡ false
      go true e k = absurd (let z : ◌≡◌ {A = ℕ} 0 1 = cc in omega arith)
      go false e k = e

  pub sound_of : (i : ℕ) → pass_of ms ≡ yes → i < length ms → Sound i
  unfolding pass_of
  sound_of i h k = sound_good i (from_good (length ms) 0 i h (omega arith) (omega arith))

  -- ---- walks

  -- usages name macros of the set
  used_below : (w : List ℕ) (r : List ℕ) (j : ℕ) → (In j r → j < length ms) → (f : Result ℕ ℕ) → find w ms ≡ f → In j (used_by f r) → j < length ms
  used_below w r j ih (Ok i) e (first q) = subst (λ (z : ℕ). z < length ms) (sym q) (find_at_lt w ms e)
  used_below w r j ih (Ok i) e (later h) = ih h
  used_below w r j ih (Err i) e h = ih h

  pub uses_below : (ps : List Pending) (j : ℕ) → In j (uses_in ms ps) → j < length ms
  unfolding uses_in
  uses_below [] j h = elim h [ ]
  uses_below (p ∷ ps) j h =
      by_usage (λ (l : List ℕ). In j l → j < length ms) (view p) (λ e. uses_below ps j)
      (λ w e. used_below w (uses_in ms ps) j (uses_below ps j) (find w ms) refl) h

  pub walk_below : {i : ℕ} {l : List ℕ} → Walk ms i l → Below (length ms) l
  walk_below stay = below_nil
  walk_below {i} (step {j = j} m w) = below_cons (uses_below (text_at ms i) j m) (walk_below w)

  -- a walk shows what is reached
  or_right : (a b : Bool) → b ≡ true → (a || b) ≡ true
  or_right true b e = refl
  or_right false b e = e

  any_in : (go : ℕ → Bool) (j k : ℕ) (ks : List ℕ) → In k ks → (eqb k j || go k) ≡ true → reaches_any go j ks ≡ true
  unfolding reaches_any
  any_in go j k [] c h = elim c [ ]
  any_in go j k (x ∷ ks) (first e) h = ap (λ (z : Bool). z || reaches_any go j ks) (subst (λ (z : ℕ). (eqb z j || go z) ≡ true) e h)
  any_in go j k (x ∷ ks) (later m) h = or_right (eqb x j || go x) (reaches_any go j ks) (any_in go j k ks m h)

  pub walk_reaches : (f : ℕ) {i j : ℕ} {l : List ℕ} → Walk ms i l → In j l → length l ≤ f → reaches ms f i j ≡ true
  unfolding reaches
  walk_reaches zero stay h k = elim h [ ]
  walk_reaches zero (step m w) h k = absurd (omega arith)
  walk_reaches (suc f) {i} {j} (step {j = x} {l = l} m w) (first e) k =
      any_in (λ x. reaches ms f x j) j x (uses ms i) m (ap (λ (z : Bool). z || reaches ms f x j) (eq-eqb x j (sym e)))
  walk_reaches (suc f) {i} {j} (step {j = x} {l = l} m w) (later h) k =
      any_in (λ x. reaches ms f x j) j x (uses ms i) m (or_right (eqb x j) (reaches ms f x j) (walk_reaches f w h (omega arith)))
  walk_reaches (suc f) stay h k = elim h [ ]

  -- a walk that comes back shows a macro that reaches itself
  no_return : (i : ℕ) (l : List ℕ) → ((j : ℕ) → j < length ms → reaches ms (length ms) j j ≡ false) → Below (length ms) (i ∷ l) → Walk ms i l → length l ≤ length ms → Twice (i ∷ l) → ⊥
  no_return i l apart (below_cons b bs) w k (now h) =
      let r : reaches ms (length ms) i i ≡ true = walk_reaches (length ms) w h k in
      let f : reaches ms (length ms) i i ≡ false = apart i b in
      let z : ◌≡◌ {A = ℕ} 0 1 = cc in
      omega arith
  no_return i l apart (below_cons b bs) (step {j = j} {l = m} u w) k (after t) = no_return j m apart bs w (omega arith) t
  no_return i l apart (below_cons b bs) stay k (after t) = none_twice t

  -- ---- chains

  -- a walk of f steps
  record Long (f i : ℕ) : Type 0 where
    nodes : List ℕ
    size : length nodes ≡ f
    walk : Walk ms i nodes

  record LongIn (f : ℕ) (ks : List ℕ) : Type 0 where
    node : ℕ
    among : In node ks
    long : Long f node

  level_in : (f : ℕ) → ((i : ℕ) → (chain_of ms (suc f) i ≡ chain_of ms f i) ⊎ Long f i) → (ks : List ℕ)
      → (longest (λ k. chain_of ms (suc f) k) ks ≡ longest (λ k. chain_of ms f k) ks) ⊎ LongIn f ks
  unfolding longest
  level_in f ih [] = inl refl
  level_in f ih (k ∷ ks) = go (ih k) (level_in f ih ks)
    where
      go : (chain_of ms (suc f) k ≡ chain_of ms f k) ⊎ Long f k → (longest (λ k. chain_of ms (suc f) k) ks ≡ longest (λ k. chain_of ms f k) ks) ⊎ LongIn f ks
          → (max (chain_of ms (suc f) k) (longest (λ k. chain_of ms (suc f) k) ks) ≡ max (chain_of ms f k) (longest (λ k. chain_of ms f k) ks)) ⊎ LongIn f (k ∷ ks)
      go (inl a) (inl b) = inl (rw (a, b))
      go (inl a) (inr b) = inr (record { node = b.node; among = later b.among; long = b.long })
      go (inr a) b = inr (record { node = k; among = first refl; long = a })

  -- one level more counts no more, or there is a walk as long
  level_or_long : (f i : ℕ) → (chain_of ms (suc f) i ≡ chain_of ms f i) ⊎ Long f i
  unfolding chain_of
  level_or_long zero i = inr (record { nodes = []; size = refl; walk = stay })
  level_or_long (suc f) i = go (level_in f (λ k. level_or_long f k) (uses ms i))
    where
      go : (longest (λ k. chain_of ms (suc f) k) (uses ms i) ≡ longest (λ k. chain_of ms f k) (uses ms i)) ⊎ LongIn f (uses ms i)
          → (suc (longest (λ k. chain_of ms (suc f) k) (uses ms i)) ≡ suc (longest (λ k. chain_of ms f k) (uses ms i))) ⊎ Long (suc f) i
      go (inl a) = inl (ap suc a)
      go (inr b) = inr (record { nodes = b.node ∷ b.long.nodes; size = ap suc b.long.size; walk = step b.among b.long.walk })

  longest_in : (go : ℕ → ℕ) (j : ℕ) (ks : List ℕ) → In j ks → go j ≤ longest go ks
  unfolding longest
  longest_in go j [] h = elim h [ ]
  longest_in go j (k ∷ ks) (first e) = let q : go j ≡ go k = ap go e in omega arith
  longest_in go j (k ∷ ks) (later m) = let q : go j ≤ longest go ks = longest_in go j ks m in omega arith

  module _ (passes : pass_of ms ≡ yes) where
    chain_level : (i : ℕ) → i < length ms → chain_of ms (suc (length ms)) i ≡ chain_of ms (length ms) i
    chain_level i h = go (level_or_long (length ms) i)
      where
        go : (chain_of ms (suc (length ms)) i ≡ chain_of ms (length ms) i) ⊎ Long (length ms) i → chain_of ms (suc (length ms)) i ≡ chain_of ms (length ms) i
        go (inl e) = e
        go (inr l) =
            let size : length l.nodes ≡ length ms = l.size in
            let b : Below (length ms) (i ∷ l.nodes) = below_cons h (walk_below l.walk) in
            absurd (no_return i l.nodes (λ j k. (sound_of j passes k).apart) b l.walk (omega arith) (pigeon (length ms) (i ∷ l.nodes) b (omega arith)))

    pub chain_falls : (i j : ℕ) → i < length ms → In j (uses ms i) → chain ms j < chain ms i
    unfolding chain chain_of
    chain_falls i j h m =
        let a : chain_of ms (length ms) j ≤ longest (λ k. chain_of ms (length ms) k) (uses ms i) = longest_in (λ k. chain_of ms (length ms) k) j (uses ms i) m in
        let b : suc (longest (λ k. chain_of ms (length ms) k) (uses ms i)) ≡ chain_of ms (length ms) i = chain_level i h in
        omega arith

    pub chain_some : (i : ℕ) → i < length ms → 1 ≤ chain ms i
    unfolding chain chain_of
    chain_some i h =
        let b : suc (longest (λ k. chain_of ms (length ms) k) (uses ms i)) ≡ chain_of ms (length ms) i = chain_level i h in
        omega arith
