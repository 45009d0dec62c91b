-- What look up shows: a name without a leading `\`, the form of the macro found, and nothing of a store that no definitions leave.
-- Assumes nothing.
use mathlib.Core.Path.{◌≡◌, refl, sym, ap, ◌∙◌, subst}
use mathlib.Core.List.{List, [], ◌∷◌}
use Prim.Native.Nat.{ℕ, suc, ◌-◌, ◌≤◌}
use native.Mathlib.Omega.{arith}
use borrow.Author.Tests.{eq-eqb, ne_eqb}
use lib.Dec.{eqb}
use lib.ListN.{length, get_or}
use lib.Seq.{take_all}
use Rattle.text.specs.Bytes.{part}
use Rattle.lex.proofs.Tests.{by_test}
use Rattle.definition.specs.Definitions.{Macro}
use Rattle.form.specs.Forms.{form_of}
use Rattle.store.specs.Stores.{macro_at, find}
use Rattle.store.specs.Buffers.{Holds}
use Rattle.std.proofs.Common.{Result, Ok, Err, Option, Some, None}
use Rattle.store.proofs.Places.{found_below}
use Rattle.genuine.specs.Layout.{left_in}
use Rattle.genuine.proofs.Accepting.{left_complete}
use Rattle.macros.specs.Looking.{plainly, shown_by, shown, Shows}

-- ---- a name

pub plain_none : (w : List ℕ) → length w ≡ 0 → w ≡ plainly w
plain_none [] h = refl
plain_none (x ∷ w) h = absurd (omega arith)

pub plain_cut : (w : List ℕ) → (length w ≡ 0 → ⊥) → get_or w 0 0 ≡ 92 → part w 1 (length w) ≡ plainly w
plain_cut [] h e = absurd (h refl)
plain_cut (x ∷ w) h e = rw (eq-eqb x 92 e) (take_all (length (x ∷ w) - 1) w (omega arith))

pub plain_same : (w : List ℕ) → (get_or w 0 0 ≡ 92 → ⊥) → w ≡ plainly w
plain_same [] h = refl
plain_same (x ∷ w) h = rw (ne_eqb x 92 h)

pub plain_shorter : (w : List ℕ) {y : List ℕ} → y ≡ plainly w → length y ≤ length w
plain_shorter w e = omega (arith, ap length e, go w)
  where
    go : (w : List ℕ) → length (plainly w) ≤ length w
    go [] = omega arith
    go (x ∷ w) = by_test (λ (l : List ℕ). length l ≤ suc (length w)) (eqb x 92) (λ e. omega arith) (λ e. omega arith)

-- ---- a macro

module _ (w : List ℕ) {ms : List Macro} {b : List ℕ} {r : List (List ℕ)} {n : ℕ} {f : Result ℕ ℕ} (h : Holds ms b r n) (e : f ≡ find w ms) where
  shown_by_lem : (g : Result ℕ ℕ) → f ≡ g → shown w ms ≡ shown_by g ms
  unfolding shown
  shown_by_lem g a = ap (λ (x : Result ℕ ℕ). shown_by x ms) (sym e ∙ a)

  pub shown_at : (i : ℕ) → f ≡ Ok i → {p : List ℕ} → p ≡ form_of (macro_at ms i) → p ≡ shown w ms
  shown_at i a q = q ∙ sym (shown_by_lem (Ok i) a)

  pub shown_past : (i : ℕ) → f ≡ Ok i → n ≤ i → {p : List ℕ} → p ≡ shown w ms
  shown_past i a l = absurd (omega (arith, found_below w h e i a))

  pub shown_missing : (i : ℕ) → f ≡ Err i → {p : List ℕ} → p ≡ [] → p ≡ shown w ms
  shown_missing i a q = q ∙ sym (shown_by_lem (Err i) a)

-- ---- a store

module _ {b : List ℕ} {r : List (List ℕ)} {name p : List ℕ} {c : Option ℕ} (e : c ≡ left_in b r) where
  pub shows_left : (n : ℕ) → c ≡ Some n → (w : List ℕ) → w ≡ plainly name → ((ms : List Macro) → Holds ms b r n → p ≡ shown w ms)
      → Shows b r name p
  shows_left n k w q s = record {
    left = λ ms l.
        let g : left_in b r ≡ Some (length ms) = left_complete ms b r l in
        let z : n ≡ length ms = cc in
        s ms (subst (λ (i : ℕ). Holds ms b r i) (sym z) l.holds) ∙ ap (λ (v : List ℕ). shown v ms) q;
    foreign = λ g. cc;
  }

  pub shows_foreign : c ≡ None → p ≡ [] → Shows b r name p
  shows_foreign k q = record {
    left = λ ms l.
        let g : left_in b r ≡ Some (length ms) = left_complete ms b r l in
        cc;
    foreign = λ g. q;
  }
