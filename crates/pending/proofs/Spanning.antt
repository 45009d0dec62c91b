-- The tokens from one position to before another.
-- Assumes nothing.
use Prim.Native.Nat.{ℕ, ◌-◌, ◌<◌, ◌≤◌}
use mathlib.Core.Bool.{Bool, true, false}
use mathlib.Core.List.{List, [], ◌∷◌, ◌++◌}
use mathlib.Core.Path.{◌≡◌, refl, sym, ap, ◌∙◌}
use native.Mathlib.Nat.{le_refl}
use native.Mathlib.Omega.{arith}
use lib.Dec.{leb}
use lib.ListN.{length, drop, length-drop}
use borrow.Author.Tests.{leb-true, leb-false}
use Rattle.lex.specs.Tokens.{in_file}
use Rattle.lex.proofs.Progress.{token-at}
use Rattle.pending.specs.Pending.{Pending, file_from}
use Rattle.pending.specs.References.{stacked}
use Rattle.pending.specs.Sources.{items_from, last_of, ItemIs, Spans}
use Rattle.pending.specs.Sources.Spans.{none, more}
use Rattle.pending.proofs.Seeing.{from_out, from_more, stacked_length}

-- no two positions up to the last have the same tokens
abbrev pub Apart : (ℕ → List Pending) → ℕ → Type 0
Apart f last = (i j : ℕ) → i ≤ last → j ≤ last → f i ≡ f j → i ≡ j

module _ {f : ℕ → List Pending} where
  pub spans_less : {i e : ℕ} {ps : List Pending} → Spans f i e ps → i ≤ e
  spans_less (none {i}) = le_refl i
  spans_less (more h q r) = omega (arith, spans_less r)

  pub spans_at : {i e : ℕ} {ps : List Pending} → Spans f i e ps → e ≤ i → (i ≡ e) × (ps ≡ [])
  spans_at none h = (refl, refl)
  spans_at (more l q r) h = let k = spans_less r in absurd (omega arith)

  pub spans_append : {i j e : ℕ} {ps qs : List Pending} → Spans f i j ps → Spans f j e qs → Spans f i e (ps ++ qs)
  spans_append none t = t
  spans_append (more h q r) t = more h q (spans_append r t)

  module _ {last : ℕ} where
    pub spans_one : {i next : ℕ} {p : Pending} → ItemIs f last i p next → Spans f i next (p ∷ [])
    spans_one t = more t.past t.tokens none

    pub spans_snoc : {i j next : ℕ} {p : Pending} {ps : List Pending} → Spans f i j ps → ItemIs f last j p next → Spans f i next (ps ++ p ∷ [])
    spans_snoc r t = spans_append r (spans_one t)

-- the tokens past the first
pub record Past (f : ℕ → List Pending) (next e : ℕ) (p : Pending) (ps : List Pending) : Type 0 where
  pub rest : List Pending
  pub list : ps ≡ p ∷ rest
  pub spans : Spans f next e rest

module _ {f : ℕ → List Pending} {last : ℕ} (apart : Apart f last) where
  pub spans_cons : {i e next : ℕ} {p : Pending} {ps : List Pending} → ItemIs f last i p next → Spans f i e ps → i < e → e ≤ last → Past f next e p ps
  spans_cons t none h l = absurd (omega arith)
  spans_cons {e = e} {next = next} {p = p} t (more {j = j} {p = p'} {ps = ps} g q r) h l =
      let k : j ≤ e = spans_less r in
      let z : p' ∷ f j ≡ p ∷ f next = sym q ∙ t.tokens in
      let w : f j ≡ f next = cc in
      let n : j ≡ next = apart j next (omega arith) t.within w in
      let d : p' ≡ p = cc in
      record { rest = ps; list = ap (λ (x : Pending). x ∷ ps) d; spans = rw n at r }

-- ---- no two positions of a file or of a list have the same tokens

heads : {x y : Pending} {xs ys : List Pending} → x ∷ xs ≡ y ∷ ys → x.at ≡ y.at
heads {x} {y} e = let d : x ≡ y = cc in ap (λ (p : Pending). p.at) d

some_none : {A : Type 0} {x : Pending} {xs : List Pending} → x ∷ xs ≡ [] → A
some_none e = let z : ◌≡◌ {A = ℕ} 0 1 = cc in absurd (omega arith)

file_apart : (s : List ℕ) (i j : ℕ) → i ≤ length s → j ≤ length s → file_from s i ≡ file_from s j → i ≡ j
file_apart s i j h g e = go (leb (length s) i) (leb (length s) j) refl refl
  where
    go : (a b : Bool) → leb (length s) i ≡ a → leb (length s) j ≡ b → i ≡ j
    go true true p q = let m : length s ≤ i = leb-true (length s) i p in let n : length s ≤ j = leb-true (length s) j q in omega arith
    go true false p q =
        some_none (sym (from_more s j (leb-false (length s) j q)) ∙ sym e ∙ from_out s i (leb-true (length s) i p))
    go false true p q =
        some_none (sym (from_more s i (leb-false (length s) i p)) ∙ e ∙ from_out s j (leb-true (length s) j q))
    go false false p q =
        sym (token-at in_file s i)
        ∙ heads (sym (from_more s i (leb-false (length s) i p)) ∙ e ∙ from_more s j (leb-false (length s) j q))
        ∙ token-at in_file s j

list_apart : (l : List Pending) (i j : ℕ) → i ≤ length l → j ≤ length l → drop i l ≡ drop j l → i ≡ j
list_apart l i j h g e =
    let a : length (drop i l) ≡ length l - i = length-drop i l in
    let b : length (drop j l) ≡ length l - j = length-drop j l in
    let c : length (drop i l) ≡ length (drop j l) = ap length e in
    omega arith

pub items_apart : (s b : List ℕ) (l : List (List ℕ)) (n : ℕ) (file : Bool) → Apart (items_from s b l n file) (last_of s n file)
unfolding items_from
items_apart s b l n true i j h g e = file_apart s i j h g e
items_apart s b l n false i j h g e =
    let k : length (stacked s b l n) ≡ n = stacked_length s b l n in
    list_apart (stacked s b l n) i j (omega arith) (omega arith) e
