-- A macro reaches another exactly if some walk along usages leads there: as many steps as there are macros find every way.
-- Assumes nothing.
use Prim.Native.Nat.{ℕ, zero, suc, ◌+◌, ◌<◌, ◌≤◌}
use native.Mathlib.Omega.{arith}
use mathlib.Core.Path.{◌≡◌, refl, sym, subst}
use mathlib.Core.Bool.{Bool, true, false, ◌||◌}
use mathlib.Core.Logic.{◌⊎◌, inl, inr, ◌↔◌}
use mathlib.Core.List.Memᴰ.{head as first}
use mathlib.Core.List.Memᴰ.{not-nil as none_in}
use mathlib.Core.List.Memᴰ.{tail as later}
use mathlib.Core.List.{List, [], ◌∷◌, Memᴰ as In}
use lib.Dec.{eqb, leb}
use lib.ListN.{length}
use borrow.Author.Tests.{eqb-true, leb-true, leb-false}
use Rattle.definition.specs.Definitions.{Macro}
use Rattle.passing.specs.Passing.{uses, reaches_any, reaches}
use Rattle.passing.specs.Meaning.{Walk, stay, step}
use Rattle.passing.proofs.Pigeon.{Twice, now, after, pigeon, none_twice}
use Rattle.passing.proofs.Chains.{walk_below, walk_reaches}

module _ (ms : List Macro) where
  -- a walk from i on which j stands
  pub record Way (i j : ℕ) : Type 0 where
    pub nodes : List ℕ
    pub walk : Walk ms i nodes
    pub ends : In j nodes

  -- ---- what is reached is reached by a walk

  record Some (go : ℕ → Bool) (j : ℕ) (ks : List ℕ) : Type 0 where
    node : ℕ
    among : In node ks
    holds : (eqb node j || go node) ≡ true

  any_some : (go : ℕ → Bool) (j : ℕ) (ks : List ℕ) → reaches_any go j ks ≡ true → Some go j ks
  unfolding reaches_any
  any_some go j [] h = absurd (let z : ◌≡◌ {A = ℕ} 0 1 = cc in omega arith)
  any_some go j (k ∷ ks) h = at (eqb k j || go k) refl h (any_some go j ks)
    where
      at : (b : Bool) → (eqb k j || go k) ≡ b → (b || reaches_any go j ks) ≡ true → (reaches_any go j ks ≡ true → Some go j ks) → Some go j (k ∷ ks)
      at true e q ih = record { node = k; among = first refl; holds = e }
      at false e q ih = let s = ih q in record { node = s.node; among = later s.among; holds = s.holds }

  way_of : (f i j : ℕ) → reaches ms f i j ≡ true → Way i j
  unfolding reaches
  way_of zero i j h = absurd (let z : ◌≡◌ {A = ℕ} 0 1 = cc in omega arith)
  way_of (suc f) i j h =
      let s = any_some (λ k. reaches ms f k j) j (uses ms i) h in
      at s.node s.among (eqb s.node j) refl s.holds (way_of f s.node j)
    where
      at : (k : ℕ) → In k (uses ms i) → (b : Bool) → eqb k j ≡ b → (b || reaches ms f k j) ≡ true → (reaches ms f k j ≡ true → Way k j) → Way i j
      at k m true e q ih = record { nodes = k ∷ []; walk = step m stay; ends = first (sym (eqb-true k j e)) }
      at k m false e q ih = let w = ih q in record { nodes = k ∷ w.nodes; walk = step m w.walk; ends = later w.ends }

  -- ---- a walk cut short

  -- a walk from i that ends in j
  data Path : ℕ → ℕ → List ℕ → Type 0 where
    arrive : {i j : ℕ} → In j (uses ms i) → Path i j (j ∷ [])
    pass_by : {i j k : ℕ} {l : List ℕ} → In k (uses ms i) → Path k j l → Path i j (k ∷ l)

  path_walk : {i j : ℕ} {l : List ℕ} → Path i j l → Walk ms i l
  path_walk (arrive m) = step m stay
  path_walk (pass_by m p) = step m (path_walk p)

  path_ends : {i j : ℕ} {l : List ℕ} → Path i j l → In j l
  path_ends (arrive m) = first refl
  path_ends (pass_by m p) = later (path_ends p)

  path_some : {i j : ℕ} {l : List ℕ} → Path i j l → 1 ≤ length l
  path_some (arrive m) = omega arith
  path_some (pass_by m p) = omega arith

  -- one of at most n steps
  record Within (i j n : ℕ) : Type 0 where
    nodes : List ℕ
    path : Path i j nodes
    size : length nodes ≤ n

  within_more : {i j : ℕ} (n m : ℕ) → n ≤ m → Within i j n → Within i j m
  within_more n m h w = let s : length w.nodes ≤ n = w.size in record { nodes = w.nodes; path = w.path; size = omega arith }

  within_step : {i j k : ℕ} (n : ℕ) → In k (uses ms i) → Within k j n → Within i j (suc n)
  within_step {k = k} n m w = let s : length w.nodes ≤ n = w.size in record { nodes = k ∷ w.nodes; path = pass_by m w.path; size = omega arith }

  -- up to where j first stands
  walk_path : {i j : ℕ} {l : List ℕ} → Walk ms i l → In j l → Within i j (length l)
  walk_path stay h = elim h [ ]
  walk_path {i} {j} (step {j = k} {l = l} m w) (first e) =
      record { nodes = j ∷ []; path = arrive (subst (λ (x : ℕ). In x (uses ms i)) (sym e) m); size = omega arith }
  walk_path {i} {j} (step {j = k} {l = l} m w) (later h) = within_step (length l) m (walk_path w h)

  -- from where k stands on
  path_from : {i j : ℕ} (k n : ℕ) {l : List ℕ} → Path i j l → In k l → length l ≤ suc n → (k ≡ j) ⊎ Within k j n
  path_from k n (arrive m) (first e) s = inl e
  path_from k n (arrive m) (later h) s = absurd (none_in h)
  path_from {j = j} k n (pass_by {l = l} m p) (first e) s =
      inr (record { nodes = l; path = subst (λ (x : ℕ). Path x j l) (sym e) p; size = omega arith })
  path_from {j = j} k n (pass_by {l = l} m p) (later h) s = path_from k n p h (omega arith)

  -- a macro that stands twice is visited once
  path_short : {i j : ℕ} (n : ℕ) {l : List ℕ} → Path i j l → Twice l → length l ≤ suc n → Within i j n
  path_short n (arrive m) (now h) s = absurd (none_in h)
  path_short n (arrive m) (after t) s = none_twice t
  path_short {i} {j} zero (pass_by {l = l} m p) t s = let k : 1 ≤ length l = path_some p in absurd (omega arith)
  path_short {i} {j} (suc n) (pass_by {k = k} {l = l} m p) (now h) s = go (path_from k n p h (omega arith))
    where
      go : (k ≡ j) ⊎ Within k j n → Within i j (suc n)
      go (inl e) = record { nodes = j ∷ []; path = arrive (subst (λ (x : ℕ). In x (uses ms i)) e m); size = omega arith }
      go (inr w) = within_step n m w
  path_short {i} {j} (suc n) (pass_by {k = k} {l = l} m p) (after t) s = within_step n m (path_short n p t (omega arith))

  path_fits : {i j : ℕ} (f : ℕ) → Within i j (f + length ms) → Within i j (length ms)
  path_fits zero w = within_more (0 + length ms) (length ms) (omega arith) w
  path_fits {i} {j} (suc f) w = path_fits f (go (leb (length w.nodes) (length ms)) refl)
    where
      go : (b : Bool) → leb (length w.nodes) (length ms) ≡ b → Within i j (f + length ms)
      go true e =
          let s : length w.nodes ≤ length ms = leb-true _ _ e in
          record { nodes = w.nodes; path = w.path; size = omega arith }
      go false e =
          let s : length ms < length w.nodes = leb-false _ _ e in
          let u : length w.nodes ≤ suc f + length ms = w.size in
          let t : length w.nodes ≤ suc (f + length ms) = omega arith in
          path_short (f + length ms) w.path (pigeon (length ms) w.nodes (walk_below ms (path_walk w.path)) s) t

  reaches_way : (i j : ℕ) → Way i j → reaches ms (length ms) i j ≡ true
  reaches_way i j w =
      let p : Within i j (length w.nodes) = walk_path w.walk w.ends in
      let q : Within i j (length ms) = path_fits (length w.nodes) (within_more (length w.nodes) (length w.nodes + length ms) (omega arith) p) in
      walk_reaches ms (length ms) (path_walk q.path) (path_ends q.path) q.size

  pub reach_exact : (i j : ℕ) → (reaches ms (length ms) i j ≡ true) ↔ Way i j
  reach_exact i j = (way_of (length ms) i j, reaches_way i j)
