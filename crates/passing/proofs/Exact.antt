-- Pass and the longest chain mean what demand 3 says: the first macro at fault, ways along usages, and the longest of these.
-- Assumes nothing.
use Prim.Native.Nat.{ℕ, zero, suc, ◌+◌, ◌<◌, ◌≤◌, max}
use native.Mathlib.Omega.{arith}
use mathlib.Core.Path.{◌≡◌, refl, sym, ap, ◌∙◌, subst}
use mathlib.Core.Bool.{Bool, true, false, cond}
use mathlib.Core.Logic.{◌⊎◌, inl, inr, ◌↔◌}
use mathlib.Core.Option.{Option, none, some}
use mathlib.Core.List.Memᴰ.{head as first}
use mathlib.Core.List.Memᴰ.{tail as later}
use mathlib.Core.List.{List, [], ◌∷◌, Memᴰ as In}
use lib.Dec.{eqb, leb}
use lib.ListN.{length}
use borrow.Author.Tests.{eqb-true, eqb-false, leb-true, leb-false}
use Rattle.definition.specs.Definitions.{Macro}
use Rattle.passing.specs.Passing.{or_next, text_fault, text_at, uses, reaches, macro_fault, yes, fault, pass_at, pass_from, pass_of}
use Rattle.passing.specs.Chains.{longest, chain_of, chain}
use Rattle.passing.specs.Meaning.{Demanded, First, Longest, Walk, stay, step}
use Rattle.passing.proofs.Usages.{next_left, next_right, text_exact}
use Rattle.passing.proofs.Chains.{from_good, uses_below, chain_falls, chain_some}
use Rattle.passing.proofs.Reaching.{Way, reach_exact}

-- 16, of a macro that reaches itself
abbrev recursive : Bool → Option ℕ
recursive b = cond b (some 16) none

module _ (ms : List Macro) where
  -- ---- a macro without fault

  -- no fault in the text of macro i, and no walk along usages leads back to it
  pub record Passing (i : ℕ) : Type 0 where
    pub usages : text_fault ms (text_at ms i) ≡ none
    pub apart : (l : List ℕ) → Walk ms i l → In i l → ⊥

  not_reached : (b : Bool) → recursive b ≡ none → b ≡ true → ⊥
  not_reached true h e = let z : ◌≡◌ {A = ℕ} 0 1 = cc in omega arith
  not_reached false h e = let z : ◌≡◌ {A = ℕ} 0 1 = cc in omega arith

  passing_good : (i : ℕ) → macro_fault ms i ≡ none → Passing i
  unfolding macro_fault
  passing_good i h =
      let r : recursive (reaches ms (length ms) i i) ≡ none = next_right (text_fault ms (text_at ms i)) (recursive (reaches ms (length ms) i i)) h in
      record {
        usages = next_left (text_fault ms (text_at ms i)) (recursive (reaches ms (length ms) i i)) h;
        apart = λ l w m. not_reached (reaches ms (length ms) i i) r ((reach_exact ms i i).1 (record { nodes = l; walk = w; ends = m }));
      }

  good_passing : (i : ℕ) → Passing i → macro_fault ms i ≡ none
  unfolding macro_fault
  good_passing i p = ap (λ (z : Option ℕ). or_next z (recursive (reaches ms (length ms) i i))) p.usages ∙ go (reaches ms (length ms) i i) refl
    where
      go : (b : Bool) → reaches ms (length ms) i i ≡ b → recursive b ≡ none
      go true e = let w = (reach_exact ms i i).0 e in absurd (p.apart w.nodes w.walk w.ends)
      go false e = refl

  pub macro_exact : (i : ℕ) → (macro_fault ms i ≡ none) ↔ Passing i
  macro_exact i = (passing_good i, good_passing i)

  -- ---- a macro at fault

  -- "13, 14 or 15 for its first bad usage, else 16 if it reaches itself"
  pub data Faulty (i : ℕ) : ℕ → Type 0 where
    by_usage : {n : ℕ} → text_fault ms (text_at ms i) ≡ some n → Faulty i n
    by_itself : text_fault ms (text_at ms i) ≡ none → Way ms i i → Faulty i 16

  faulty_of : (i n : ℕ) → macro_fault ms i ≡ some n → Faulty i n
  unfolding macro_fault
  faulty_of i n h = go (text_fault ms (text_at ms i)) refl h
    where
      reached : text_fault ms (text_at ms i) ≡ none → (b : Bool) → reaches ms (length ms) i i ≡ b → recursive b ≡ some n → Faulty i n
      reached e true r k = let q : 16 ≡ n = cc in subst (Faulty i) q (by_itself e ((reach_exact ms i i).0 r))
      reached e false r k = absurd (let z : ◌≡◌ {A = ℕ} 0 1 = cc in omega arith)

      go : (f : Option ℕ) → text_fault ms (text_at ms i) ≡ f → or_next f (recursive (reaches ms (length ms) i i)) ≡ some n → Faulty i n
      go none e k = reached e (reaches ms (length ms) i i) refl k
      go (some m) e k = by_usage (e ∙ k)

  fault_of : (i n : ℕ) → Faulty i n → macro_fault ms i ≡ some n
  unfolding macro_fault
  fault_of i n (by_usage e) = ap (λ (z : Option ℕ). or_next z (recursive (reaches ms (length ms) i i))) e
  fault_of i n (by_itself e w) =
      ap (λ (z : Option ℕ). or_next z (recursive (reaches ms (length ms) i i))) e ∙ ap recursive ((reach_exact ms i i).1 w)

  pub fault_exact : (i n : ℕ) → (macro_fault ms i ≡ some n) ↔ Faulty i n
  fault_exact i n = (faulty_of i n, fault_of i n)

  -- ---- pass answers yes

  from_passing : (k i : ℕ) → ((j : ℕ) → i ≤ j → j < i + k → macro_fault ms j ≡ none) → pass_from ms i k ≡ yes
  unfolding pass_from
  from_passing zero i h = refl
  from_passing (suc k) i h =
      ap (λ (z : Option ℕ). pass_at z i (pass_from ms (suc i) k)) (h i (omega arith) (omega arith)) ∙ from_passing k (suc i) (λ j a b. h j (omega arith) (omega arith))

  pub pass_exact : (pass_of ms ≡ yes) ↔ ((i : ℕ) → i < length ms → Passing i)
  unfolding pass_of
  pass_exact = (
    λ p i h. passing_good i (from_good ms (length ms) 0 i p (omega arith) (omega arith)),
    λ k. from_passing (length ms) 0 (λ j a b. good_passing j (k j (omega arith))),
  )

  pub pass_words : (pass_of ms ≡ yes) ↔ ((i : ℕ) → i < length ms → Demanded ms i)
  pass_words = (
    λ p i h. let q = pass_exact.0 p i h in record { usages = (text_exact ms (text_at ms i)).0 q.usages; apart = q.apart },
    λ k. pass_exact.1 (λ i h. let q = k i h in record { usages = (text_exact ms (text_at ms i)).1 q.usages; apart = q.apart }),
  )

  -- ---- pass names a macro

  -- macro i is at fault for n, none from macro k to it is
  record FirstFrom (k e i n : ℕ) : Type 0 where
    from : k ≤ i
    below : i < e
    at_fault : macro_fault ms i ≡ some n
    none_before : (j : ℕ) → k ≤ j → j < i → macro_fault ms j ≡ none

  first_from : (k i j n : ℕ) → pass_from ms i k ≡ fault j n → FirstFrom i (i + k) j n
  unfolding pass_from
  first_from zero i j n h = absurd (let z : ◌≡◌ {A = ℕ} 0 1 = cc in omega arith)
  first_from (suc k) i j n h = go (macro_fault ms i) refl h (first_from k (suc i) j n)
    where
      next : macro_fault ms i ≡ none → FirstFrom (suc i) (suc i + k) j n → FirstFrom i (i + suc k) j n
      next e f =
          let a : suc i ≤ j = f.from in
          let b : j < suc i + k = f.below in
          record {
            from = omega arith;
            below = omega arith;
            at_fault = f.at_fault;
            none_before = λ m x y. before (eqb i m) refl e (λ z. f.none_before m z y) x;
          }
        where
          before : {m : ℕ} (t : Bool) → eqb i m ≡ t → macro_fault ms i ≡ none → (suc i ≤ m → macro_fault ms m ≡ none) → i ≤ m → macro_fault ms m ≡ none
          before {m} true q e g x = subst (λ (z : ℕ). macro_fault ms z ≡ none) (eqb-true i m q) e
          before {m} false q e g x = let ne : i ≡ m → ⊥ = eqb-false i m q in g (omega arith)

      go : (f : Option ℕ) → macro_fault ms i ≡ f → pass_at f i (pass_from ms (suc i) k) ≡ fault j n
          → (pass_from ms (suc i) k ≡ fault j n → FirstFrom (suc i) (suc i + k) j n) → FirstFrom i (i + suc k) j n
      go none e q ih = next e (ih q)
      go (some m) e q ih =
          let a : i ≡ j = cc in
          let b : m ≡ n = cc in
          record {
            from = omega arith;
            below = omega arith;
            at_fault = subst (λ (z : ℕ). macro_fault ms z ≡ some n) a (e ∙ ap some b);
            none_before = λ x y z. absurd (omega arith);
          }

  fault_from : (k i j n : ℕ) → FirstFrom i (i + k) j n → pass_from ms i k ≡ fault j n
  unfolding pass_from
  fault_from zero i j n f =
      let a : i ≤ j = f.from in
      let b : j < i + 0 = f.below in
      absurd (omega arith)
  fault_from (suc k) i j n f = go (eqb i j) refl (fault_from k (suc i) j n)
    where
      a : i ≤ j
      a = f.from

      b : j < i + suc k
      b = f.below

      go : (t : Bool) → eqb i j ≡ t → (FirstFrom (suc i) (suc i + k) j n → pass_from ms (suc i) k ≡ fault j n)
          → pass_at (macro_fault ms i) i (pass_from ms (suc i) k) ≡ fault j n
      go true e ih =
          let q : i ≡ j = eqb-true i j e in
          ap (λ (z : Option ℕ). pass_at z i (pass_from ms (suc i) k)) (ap (macro_fault ms) q ∙ f.at_fault) ∙ ap (λ (z : ℕ). fault z n) q
      go false e ih =
          let ne : i ≡ j → ⊥ = eqb-false i j e in
          let a' : i ≤ j = a in
          let b' : j < i + suc k = b in
          ap (λ (z : Option ℕ). pass_at z i (pass_from ms (suc i) k)) (f.none_before i (omega arith) (omega arith))
          ∙ ih (record { from = omega arith; below = omega arith; at_fault = f.at_fault; none_before = λ m x y. f.none_before m (omega arith) y })

  pub pass_first : (i n : ℕ) → (pass_of ms ≡ fault i n) ↔ First ms i n
  unfolding pass_of
  pass_first i n = (
    λ h. let f = first_from (length ms) 0 i n h in
        let b : i < 0 + length ms = f.below in
        record { below = omega arith; at_fault = f.at_fault; none_before = λ j k. f.none_before j (omega arith) k },
    λ f. let b : i < length ms = f.below in
        fault_from (length ms) 0 i n (record { from = omega arith; below = omega arith; at_fault = f.at_fault; none_before = λ j x y. f.none_before j y }),
  )

  -- ---- the longest chain

  pub walk_short : pass_of ms ≡ yes → {i : ℕ} {l : List ℕ} → i < length ms → Walk ms i l → length (i ∷ l) ≤ chain ms i
  walk_short p {i} h stay = chain_some ms p i h
  walk_short p {i} h (step {j = k} {l = l} m w) =
      let a : chain ms k < chain ms i = chain_falls ms p i k h m in
      let b : length (k ∷ l) ≤ chain ms k = walk_short p (uses_below ms (text_at ms i) k m) w in
      omega arith

  record Best (i c : ℕ) : Type 0 where
    nodes : List ℕ
    walk : Walk ms i nodes
    size : length (i ∷ nodes) ≡ c

  record Top (go : ℕ → ℕ) (ks : List ℕ) : Type 0 where
    node : ℕ
    among : In node ks
    most : go node ≡ longest go ks

  top_of : (go : ℕ → ℕ) (ks : List ℕ) → (longest go ks ≡ 0) ⊎ Top go ks
  unfolding longest
  top_of go [] = inl refl
  top_of go (k ∷ ks) = at (leb (longest go ks) (go k)) refl (top_of go ks)
    where
      at : (b : Bool) → leb (longest go ks) (go k) ≡ b → (longest go ks ≡ 0) ⊎ Top go ks → (max (go k) (longest go ks) ≡ 0) ⊎ Top go (k ∷ ks)
      at true e t = let q : longest go ks ≤ go k = leb-true _ _ e in inr (record { node = k; among = first refl; most = omega arith })
      at false e (inl z) = let q : go k < longest go ks = leb-false _ _ e in absurd (omega arith)
      at false e (inr t) =
          let q : go k < longest go ks = leb-false _ _ e in
          let m : go t.node ≡ longest go ks = t.most in
          inr (record { node = t.node; among = later t.among; most = omega arith })

  -- what is counted is a chain
  best_of : (f i : ℕ) → (chain_of ms f i ≡ 0) ⊎ Best i (chain_of ms f i)
  unfolding chain_of
  best_of zero i = inl refl
  best_of (suc f) i = at (top_of (λ k. chain_of ms f k) (uses ms i)) (λ k. best_of f k)
    where
      with_top : (t : Top (λ k. chain_of ms f k) (uses ms i)) → (chain_of ms f t.node ≡ 0) ⊎ Best t.node (chain_of ms f t.node)
          → (suc (longest (λ k. chain_of ms f k) (uses ms i)) ≡ 0) ⊎ Best i (suc (longest (λ k. chain_of ms f k) (uses ms i)))
      with_top t (inl z) = let m = t.most in inr (record { nodes = []; walk = stay; size = ap suc (sym z ∙ m) })
      with_top t (inr b) = inr (record { nodes = t.node ∷ b.nodes; walk = step t.among b.walk; size = ap suc (b.size ∙ t.most) })

      at : (longest (λ k. chain_of ms f k) (uses ms i) ≡ 0) ⊎ Top (λ k. chain_of ms f k) (uses ms i) → ((k : ℕ) → (chain_of ms f k ≡ 0) ⊎ Best k (chain_of ms f k))
          → (suc (longest (λ k. chain_of ms f k) (uses ms i)) ≡ 0) ⊎ Best i (suc (longest (λ k. chain_of ms f k) (uses ms i)))
      at (inl z) ih = inr (record { nodes = []; walk = stay; size = ap suc (sym z) })
      at (inr t) ih = with_top t (ih t.node)

  pub chain_exact : pass_of ms ≡ yes → (i : ℕ) → i < length ms → Longest ms i (chain ms i)
  unfolding chain
  chain_exact p i h = at (best_of (length ms) i)
    where
      at : (chain_of ms (length ms) i ≡ 0) ⊎ Best i (chain_of ms (length ms) i) → Longest ms i (chain_of ms (length ms) i)
      at (inl z) = let k : 1 ≤ chain_of ms (length ms) i = chain_some ms p i h in absurd (omega arith)
      at (inr b) = record { nodes = b.nodes; walk = b.walk; size = b.size; none_longer = λ l w. walk_short p h w }
