-- Rows of what the macros use, and, closed, of what they reach.
-- Assumes nothing.
use Prim.Native.Nat.{ℕ, ◌+◌, ◌<◌, ◌≤◌}
use mathlib.Core.Bool.{Bool, true, false, cond}
use mathlib.Core.List.Memᴰ.{head as first}
use mathlib.Core.List.Memᴰ.{not-nil as none_in}
use mathlib.Core.List.Memᴰ.{tail as later}
use mathlib.Core.List.{List, [], ◌∷◌, Memᴰ as In}
use mathlib.Core.Path.{◌≡◌, refl, sym, ap, subst, ◌∙◌}
use native.Mathlib.Omega.{arith}
use lib.Dec.{eqb}
use lib.ListN.{length, set}
use lib.Seq.{get_or-set_same, get_or-set_other}
use borrow.Author.Tests.{eqb-true, eqb-false, eq-eqb}
use Rattle.lex.proofs.Tests.{true_false}
use Rattle.definition.specs.Definitions.{Macro}
use Rattle.sets.specs.Sets.{elem, members}
use Rattle.sets.specs.declared.MacroSet.{MacroSet}
use Rattle.reach.specs.Reaching.{set_of, row_of, has_bit, Fits, Closed, Way as Along, step as along, then as Along-then}
use Rattle.passing.specs.Passing.{text_at, uses, reaches}
use Rattle.passing.specs.Meaning.{Walk, stay, step}
use Rattle.passing.proofs.Chains.{uses_below}
use Rattle.passing.proofs.Reaching.{Way, reach_exact}

-- ---- rows of uses

-- one more row
pub row_more : (ms : List Macro) (r : List (List ℕ)) (i : ℕ) {s : MacroSet} {v : List ℕ} → v ≡ row_of s → i < length r
    → ((a j : ℕ) → a < i → has_bit r a j ≡ elem j (uses ms a)) → ((j : ℕ) → elem j (members s) ≡ elem j (uses ms i))
    → (a j : ℕ) → a < i + 1 → has_bit (set r i v) a j ≡ elem j (uses ms a)
unfolding has_bit
row_more ms r i {s} {v} e l f g a j h = go (eqb a i) refl
  where
    go : (t : Bool) → eqb a i ≡ t → has_bit (set r i v) a j ≡ elem j (uses ms a)
    go true q =
        let z : a ≡ i = eqb-true a i q in
        rw z (ap (λ (w : List ℕ). elem j (members (set_of w))) (get_or-set_same r i v (0 ∷ 0 ∷ 0 ∷ 0 ∷ []) l ∙ e) ∙ g j)
    go false q =
        let z : a ≡ i → ⊥ = eqb-false a i q in
        ap (λ (w : List ℕ). elem j (members (set_of w))) (get_or-set_other r i a v (0 ∷ 0 ∷ 0 ∷ 0 ∷ []) z) ∙ f a j (omega arith)

-- ---- ways along rows and along uses

elem_in : (j : ℕ) (l : List ℕ) → elem j l ≡ true → In j l
unfolding elem
elem_in j [] h = true_false false h refl
elem_in j (x ∷ l) h = go (eqb j x) refl h (elem_in j l)
  where
    go : (t : Bool) → eqb j x ≡ t → cond t true (elem j l) ≡ true → (elem j l ≡ true → In j l) → In j (x ∷ l)
    go true e q ih = first (eqb-true j x e)
    go false e q ih = later (ih q)

or_there : (t r : Bool) → r ≡ true → cond t true r ≡ true
or_there true r e = refl
or_there false r e = e

in_elem : (j : ℕ) (l : List ℕ) → In j l → elem j l ≡ true
unfolding elem
in_elem j [] x' = elim x' [ ]
in_elem j (x ∷ l) (first e) = ap (λ (t : Bool). cond t true (elem j l)) (eq-eqb j x e)
in_elem j (x ∷ l) (later m) = or_there (eqb j x) (elem j l) (in_elem j l m)

both_ways : (a b : Bool) → (a ≡ true → b ≡ true) → (b ≡ true → a ≡ true) → a ≡ b
both_ways true b f g = sym (f refl)
both_ways false true f g = g refl
both_ways false false f g = refl

module _ (ms : List Macro) (n : ℕ) (c : n ≡ length ms) (r : List (List ℕ)) (u : (i j : ℕ) → i < n → has_bit r i j ≡ elem j (uses ms i)) where
  row_in : (i j : ℕ) → i < n → has_bit r i j ≡ true → In j (uses ms i)
  row_in i j l e = elem_in j (uses ms i) (sym (u i j l) ∙ e)

  -- a used macro is one of them
  named : (i j : ℕ) → i < n → has_bit r i j ≡ true → j < n
  named i j l e = omega (arith, uses_below ms (text_at ms i) j (row_in i j l e))

  pub rows_fit : n ≤ length r → n ≤ 256 → Fits r n
  rows_fit a b = record { lent = a; few = b; named = named }

  along_way : {i j : ℕ} → i < n → Along r i j → Way ms i j
  along_way {i} {j} l (along e) = record { nodes = j ∷ []; walk = step (row_in i j l e) stay; ends = first refl }
  along_way {i} {j} l (Along-then {k = k} e w) =
      let y = along_way (named i k l e) w in
      record { nodes = k ∷ y.nodes; walk = step (row_in i k l e) y.walk; ends = later y.ends }

  walk_along : {i j : ℕ} {ks : List ℕ} → i < n → Walk ms i ks → In j ks → Along r i j
  walk_along l stay m = absurd (none_in m)
  walk_along {i} {j} l (step {j = k} m w) (first e) = along (u i j l ∙ in_elem j (uses ms i) (subst (λ (x : ℕ). In x (uses ms i)) (sym e) m))
  walk_along {i} {j} l (step {j = k} m w) (later o) =
      let e : has_bit r i k ≡ true = u i k l ∙ in_elem k (uses ms i) m in
      Along-then e (walk_along (named i k l e) w o)

  -- closed rows say what is reached
  pub closed_reaches : {r' : List (List ℕ)} → Closed r r' n → (i : ℕ) → i < n → has_bit r' i i ≡ reaches ms (length ms) i i
  closed_reaches {r'} k i l =
      both_ways (has_bit r' i i) (reaches ms (length ms) i i) (λ e. (reach_exact ms i i).1 (along_way l (k.sound i i l e)))
      (λ e. let w = (reach_exact ms i i).0 e in k.complete i i l (walk_along l w.walk w.ends))
