-- Spacing dropped at both ends, and a `\` just before a newline.
-- Assumes nothing.
use Prim.Native.Nat.{ℕ, ◌<◌, ◌≤◌}
use mathlib.Core.Bool.{Bool, true, false, cond, ◌&&◌, and-false, or-true, or-false}
use mathlib.Core.List.{List, [], ◌∷◌, ◌++◌}
use mathlib.Core.Path.{◌≡◌, refl, sym, ap, ◌∙◌}
use native.Mathlib.Omega.{arith}
use lib.Dec.{eqb}
use lib.ListN.{get_or}
use borrow.Author.Tests.{eq-eqb, ne_eqb, eqb-true}
use Rattle.lex.specs.Tokens.{Newline, String, Byte}
use Rattle.pending.specs.Pending.{Pending, is_spacing, is_comment, is_blank}
use Rattle.pending.specs.References.{raw_of, pending_by}
use Rattle.pending.specs.Sources.{items_from, last_of, item_of, ItemIs, Spans}
use Rattle.pending.specs.Sources.Spans.{none, more}
use Rattle.pending.specs.declared.Item.{Item}
use Rattle.pending.proofs.Spanning.{spans_at, spans_cons, items_apart}
use Rattle.pending.proofs.Viewing.{first_raw}
use Rattle.replace.specs.Tidying.{cleaned, before_newline, is_backslash, cleaned_all, drop_left, keep_last, drop_right}

-- ---- spacing dropped

right_more : (xs : List Pending) (c : Pending) → is_spacing c.kind ≡ true → drop_right (xs ++ c ∷ []) ≡ drop_right xs
unfolding drop_right
right_more [] c e = rw e
right_more (x ∷ xs) c e = ap (λ (r : List Pending). keep_last x r) (right_more xs c e)

-- a token that is no spacing is kept, and all before it
right_stop : (xs : List Pending) (c : Pending) → is_spacing c.kind ≡ false → drop_right (xs ++ c ∷ []) ≡ xs ++ c ∷ []
unfolding drop_right
right_stop [] c e = rw e
right_stop (x ∷ xs) c e = ap (λ (r : List Pending). keep_last x r) (right_stop xs c e) ∙ go xs
  where
    go : (xs : List Pending) → keep_last x (xs ++ c ∷ []) ≡ x ∷ (xs ++ c ∷ [])
    go [] = refl
    go (y ∷ ys) = refl

pub both_more : (xs : List Pending) (c : Pending) → is_spacing c.kind ≡ true → drop_right (drop_left (xs ++ c ∷ [])) ≡ drop_right (drop_left xs)
unfolding drop_left drop_right
both_more [] c e = rw e
both_more (x ∷ xs) c e = go (is_spacing x.kind) (both_more xs c e)
  where
    go : (t : Bool) → drop_right (drop_left (xs ++ c ∷ [])) ≡ drop_right (drop_left xs)
        → drop_right (cond t (drop_left (xs ++ c ∷ [])) (x ∷ (xs ++ c ∷ []))) ≡ drop_right (cond t (drop_left xs) (x ∷ xs))
    go true h = h
    go false h = right_more (x ∷ xs) c e

pub both_stop : (xs : List Pending) (c : Pending) → is_spacing c.kind ≡ false → drop_right (drop_left (xs ++ c ∷ [])) ≡ drop_left (xs ++ c ∷ [])
unfolding drop_left
both_stop [] c e = rw e (right_stop [] c e)
both_stop (x ∷ xs) c e = go (is_spacing x.kind) (both_stop xs c e)
  where
    go : (t : Bool) → drop_right (drop_left (xs ++ c ∷ [])) ≡ drop_left (xs ++ c ∷ [])
        → drop_right (cond t (drop_left (xs ++ c ∷ [])) (x ∷ (xs ++ c ∷ []))) ≡ cond t (drop_left (xs ++ c ∷ [])) (x ∷ (xs ++ c ∷ []))
    go true h = h
    go false h = right_stop (x ∷ xs) c e

pub left_spacing : (c : Pending) (xs : List Pending) → is_spacing c.kind ≡ true → drop_left (c ∷ xs) ≡ drop_left xs
unfolding drop_left
left_spacing c xs e = rw e

pub left_stop : (c : Pending) (xs : List Pending) → is_spacing c.kind ≡ false → drop_left (c ∷ xs) ≡ c ∷ xs
unfolding drop_left
left_stop c xs e = rw e

-- ---- what is put in place of a token

-- spacing exactly for a blank
pub cleaned_spacing : (p : Pending) → is_spacing (cleaned p).kind ≡ is_blank p.kind
cleaned_spacing p = go (is_comment p.kind) (eqb p.kind String) refl refl
  where
    go : (x y : Bool) → is_comment p.kind ≡ x → eqb p.kind String ≡ y → is_spacing (cleaned p).kind ≡ is_blank p.kind
    go true y q r = rw (q, or-true)
    go false true q r = rw (q, eqb-true p.kind String r)
    go false false q r = rw (q, r, or-false)

-- a `\` just before a newline is left out
pub cleaned_break : (p : Pending) (ps : List Pending) → (is_backslash p && before_newline ps) ≡ true → cleaned_all (p ∷ ps) ≡ cleaned_all ps
unfolding cleaned_all
cleaned_break p ps e = rw e

pub cleaned_more : (p : Pending) (ps : List Pending) → (is_backslash p && before_newline ps) ≡ false → cleaned_all (p ∷ ps) ≡ cleaned p ∷ cleaned_all ps
unfolding cleaned_all
cleaned_more p ps e = rw e

-- ---- a token and those behind it

module _ {f : ℕ → List Pending} where
  -- tokens are there up to the end of a span
  pub spans_there : {i e : ℕ} {ps : List Pending} → Spans f i e ps → i < e → f i ≡ [] → ⊥
  spans_there none h q = omega arith
  spans_there {i} (more {j = j} {p = p} g e r) h q =
      let w : p ∷ f j ≡ [] = sym e ∙ q in
      let z : ◌≡◌ {A = ℕ} 0 1 = cc in
      omega arith

-- ---- whether a token is a `\` just before a newline

module _ (s b : List ℕ) (t : Item) (z : Bool) where
  pub break_kind : (t.pend.kind ≡ Byte → ⊥) → false ≡ (is_backslash (item_of s b t) && z)
  unfolding pending_by
  break_kind h = rw (ne_eqb t.pend.kind Byte h)

  pub break_byte : (x : ℕ) → t.pend.kind ≡ Byte → x ≡ get_or (raw_of s b t.pend) 0 0 → (is_backslash (item_of s b t) && z) ≡ (eqb x 92 && z)
  unfolding pending_by
  break_byte x k e =
      let q : eqb t.pend.kind String ≡ false = ne_eqb t.pend.kind String (λ h. omega arith) in
      let w : get_or (pending_by s b t.pend).bytes 0 0 ≡ x = first_raw s b t.pend q ∙ sym e in
      rw (eq-eqb t.pend.kind Byte k, w)

  pub break_first : (x : ℕ) → t.pend.kind ≡ Byte → x ≡ get_or (raw_of s b t.pend) 0 0 → (x ≡ 92 → ⊥) → false ≡ (is_backslash (item_of s b t) && z)
  break_first x k e h = rw (break_byte x k e, ne_eqb x 92 h)

-- ---- whether the token t is one, by what the code sees

module _ (s b : List ℕ) (l : List (List ℕ)) (n : ℕ) (file : Bool) (t : Item) (to : ℕ) (ps : List Pending) (sp : Spans (items_from s b l n file) t.next to ps) where
  pub break_out : to ≤ t.next → false ≡ (is_backslash (item_of s b t) && before_newline ps)
  break_out h = rw ((spans_at sp h).1, and-false)

  -- the token behind it
  pub break_next : (u : Item) → ItemIs (items_from s b l n file) (last_of s n file) t.next (item_of s b u) u.next → t.next < to → to ≤ last_of s n file
      → {x : ℕ} → t.pend.kind ≡ Byte → x ≡ get_or (raw_of s b t.pend) 0 0 → x ≡ 92
      → eqb u.pend.kind Newline ≡ (is_backslash (item_of s b t) && before_newline ps)
  unfolding pending_by
  break_next u a h m {x} k w g =
      let v = spans_cons (items_apart s b l n file) a sp h m in
      rw (break_byte s b t (before_newline ps) x k w, g, v.list)
