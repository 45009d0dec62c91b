-- The macros that a text uses, as a set: a token more, and which macros stand in it.
-- Assumes nothing.
use Prim.Native.Nat.{ℕ, ◌+◌, ◌<◌}
use mathlib.Core.Bool.{Bool, true, false, cond}
use mathlib.Core.List.{List, [], ◌∷◌}
use mathlib.Core.Path.{◌≡◌, refl, sym, ap, ◌∙◌}
use native.Mathlib.Numerals.{add-one}
use lib.Dec.{eqb, ltb}
use lib.ListN.{length, get_or}
use borrow.Author.Tests.{eqb-true}
use Rattle.definition.specs.Definitions.{Macro}
use Rattle.store.specs.Stores.{find}
use Rattle.std.proofs.Common.{Result, Ok, Err}
use Rattle.sets.specs.Sets.{elem, insert_asc}
use Rattle.packed.proofs.Rows.{any_default}
use Rattle.pending.specs.declared.Pend.{Pend}
use Rattle.pending.specs.Pending.{View, is_call, view}
use Rattle.pending.specs.References.{pend_of, pending_by, blank, stacked}
use Rattle.pending.proofs.Viewing.{by_usages, not_usage}
use Rattle.expand.proofs.Naming.{usage_view}
use Rattle.passing.specs.Passing.{used_by, uses_of, uses_in}

-- ---- one more in a set

twice : (a b : Bool) (r : Bool) → a ≡ b → cond a true (cond b true r) ≡ cond a true r
twice true b r e = refl
twice false b r e = rw (sym e)

swap : (a b : Bool) (r : Bool) → cond a true (cond b true r) ≡ cond b true (cond a true r)
swap true true r = refl
swap true false r = refl
swap false b r = refl

elem_insert : (j x : ℕ) (l : List ℕ) → elem j (insert_asc x l) ≡ elem j (x ∷ l)
unfolding elem insert_asc
elem_insert j x [] = refl
elem_insert j x (y ∷ l) = go (ltb x y) (eqb x y) refl (elem_insert j x l)
  where
    go : (t u : Bool) → eqb x y ≡ u → elem j (insert_asc x l) ≡ cond (eqb j x) true (elem j l)
        → elem j (cond t (x ∷ y ∷ l) (cond u (y ∷ l) (y ∷ insert_asc x l))) ≡ cond (eqb j x) true (cond (eqb j y) true (elem j l))
    go true u e ih = refl
    go false true e ih = let q : x ≡ y = eqb-true x y e in sym (twice (eqb j x) (eqb j y) (elem j l) (ap (eqb j) q) ∙ ap (λ (z : ℕ). cond (eqb j z) true (elem j l)) q)
    go false false e ih = ap (cond (eqb j y) true) ih ∙ swap (eqb j y) (eqb j x) (elem j l)

-- ---- what one token uses

used_same : (f : Result ℕ ℕ) (j : ℕ) (r r' : List ℕ) → elem j r ≡ elem j r' → elem j (used_by f r) ≡ elem j (used_by f r')
unfolding elem
used_same (Ok i) j r r' e = ap (cond (eqb j i) true) e
used_same (Err i) j r r' e = e

module _ (ms : List Macro) where
  uses_same : (v : View) (j : ℕ) (r r' : List ℕ) → elem j r ≡ elem j r' → elem j (uses_of v ms r) ≡ elem j (uses_of v ms r')
  uses_same v j r r' e =
      by_usages (λ (l l' : List ℕ). elem j l ≡ elem j l') v (λ c. e) (λ w c. used_same (find w ms) j r r' e)

  -- the token of x, with those of r used already
  module _ (b : List ℕ) (v : List ℕ) {x : Pend} (z : x ≡ pend_of v) {t : Bool} (c : t ≡ is_call (view (pending_by b b x))) (r : List ℕ) (j : ℕ) where
    as_read : uses_of (view (pending_by b b x)) ms r ≡ uses_of (view (pending_by b b (pend_of v))) ms r
    as_read = ap (λ (y : Pend). uses_of (view (pending_by b b y)) ms r) z

    pub use_other : t ≡ false → elem j r ≡ elem j (uses_of (view (pending_by b b (pend_of v))) ms r)
    use_other a = ap (elem j) (sym (not_usage (view (pending_by b b x)) r _ (sym c ∙ a)) ∙ as_read)

    module _ (a : t ≡ true) {w : List ℕ} (d : w ≡ (pending_by b b x).name) {f : Result ℕ ℕ} (e : f ≡ find w ms) where
      use_by : (g : Result ℕ ℕ) → f ≡ g → used_by g r ≡ uses_of (view (pending_by b b (pend_of v))) ms r
      use_by g q =
          ap (λ (y : Result ℕ ℕ). used_by y r) (sym q ∙ e ∙ ap (λ (y : List ℕ). find y ms) d)
          ∙ ap (λ (y : View). uses_of y ms r) (sym (usage_view b b x (sym c ∙ a))) ∙ as_read

      pub use_missing : (i : ℕ) → f ≡ Err i → elem j r ≡ elem j (uses_of (view (pending_by b b (pend_of v))) ms r)
      use_missing i q = ap (elem j) (use_by (Err i) q)

      pub use_at : (i : ℕ) → f ≡ Ok i → {m : List ℕ} → m ≡ insert_asc i r → elem j m ≡ elem j (uses_of (view (pending_by b b (pend_of v))) ms r)
      use_at i q k = ap (elem j) k ∙ elem_insert j i r ∙ ap (elem j) (use_by (Ok i) q)

  -- ---- what the tokens of a list use

  module _ (b : List ℕ) (l : List (List ℕ)) (j : ℕ) where
    pub uses_none : {r : List ℕ} → r ≡ [] → elem j r ≡ elem j (uses_in ms (stacked b b l 0))
    unfolding uses_in stacked
    uses_none e = ap (elem j) e

    pub uses_more : (k : ℕ) (r r' : List ℕ) → k < length l → elem j r ≡ elem j (uses_in ms (stacked b b l k))
        → elem j r' ≡ elem j (uses_of (view (pending_by b b (pend_of (get_or l k [])))) ms r) → elem j r' ≡ elem j (uses_in ms (stacked b b l (k + 1)))
    unfolding uses_in stacked
    uses_more k r r' h e g =
        rw (add-one k)
        (g ∙ uses_same (view (pending_by b b (pend_of (get_or l k [])))) j r (uses_in ms (stacked b b l k)) e
        ∙ ap (λ (y : List ℕ). elem j (uses_of (view (pending_by b b (pend_of y))) ms (uses_in ms (stacked b b l k)))) (any_default l k [] blank h))
