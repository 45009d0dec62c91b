-- What a good definition tells: its head is whole, its formals are at most 16, and its macro is what its parts make.
-- Assumes nothing.
use Prim.Native.Nat.{ℕ, ◌<◌, ◌≤◌}
use mathlib.Core.Bool.{Bool, true, false, cond}
use mathlib.Core.List.{List}
use mathlib.Core.Logic.{inl}
use mathlib.Core.Path.{◌≡◌, refl, sym, ap, ◌∙◌}
use native.Mathlib.Omega.{arith}
use lib.Dec.{eqb, ltb}
use lib.ListN.{length}
use borrow.Author.Tests.{ltb-true, ltb-false}
use Rattle.text.specs.Bytes.{part}
use Rattle.std.specs.Prelude.{Err}
use Rattle.brackets.specs.Stacks.{Settled}
use Rattle.storing.specs.Stored.{stored}
use Rattle.definition.specs.Answers.{list_of}
use Rattle.definition.specs.Extents.{extent_at, bars_of}
use Rattle.definition.specs.Heads.{head_at}
use Rattle.definition.specs.Lists.{Formals, ill, whole}
use Rattle.definition.specs.Definitions.{Macro, macro, Definition, barred, bad, good, parameters_of, is_bad, shape_by, text_at, judged_by, defined_by, definition_at}
use Rattle.definition.specs.declared.Extent.{Extent}
use Rattle.definition.specs.declared.Head.{Head}
use Rattle.definition.specs.declared.Formal.{Formal}
use Rattle.definition.specs.declared.ReadError.{ReadError}
use Rattle.definition.specs.declared.ReadError.TheVariants.{IllFormed, NoRoom}
use Rattle.definition.proofs.Heading.{head_empty}
use Rattle.definition.proofs.Defining.{bad_name, bad_count, told_ill, told_few}
use Rattle.form.specs.Putting.{FormBy}
use Rattle.form.proofs.Working.{full_fewer}

-- a number is none, or some
by_none : {P : Type 0} (d : ℕ) → (0 < d → P) → (d ≤ 0 → P) → P
by_none {P} d f g = go (ltb 0 d) refl
  where
    go : (b : Bool) → ltb 0 d ≡ b → P
    go true e = f (ltb-true 0 d e)
    go false e = g (ltb-false 0 d e)

not_good : {A : Type 0} (d : Definition) {x : ℕ} {m : Macro} {e : ℕ} → d ≡ bad x → d ≡ good m e → A
not_good d p q = absurd (let z : ◌≡◌ {A = ℕ} 0 1 = cc in omega arith)

true_not_false : ◌≡◌ {A = Bool} true false → ⊥
true_not_false e = let z : ◌≡◌ {A = ℕ} 0 1 = cc in omega arith

-- nothing bars it
unbarred : (b : Bool) (d : Definition) (n p : ℕ) {m : Macro} {e : ℕ} → cond b d (barred n p) ≡ good m e → d ≡ good m e
unbarred true d n p q = q
unbarred false d n p q = absurd (let z : ◌≡◌ {A = ℕ} 0 1 = cc in omega arith)

-- nothing in it is bad
record Unspoilt (b : Bool) (w m : Macro) : Type 0 where
  judged : b ≡ false
  same : w ≡ m

unspoilt : (b : Bool) (w : Macro) (x : ℕ) {m : Macro} {e : ℕ} → cond b (bad x) (good w x) ≡ good m e → Unspoilt b w m
unspoilt true w x q = not_good (bad x) refl q
unspoilt false w x q = record { judged = refl; same = cc }

-- the good definition at i, by its extent and its head
module _ (s : List ℕ) (i : ℕ) {w : Extent} {h : Head} (p : w ≡ extent_at s i) (q : h ≡ head_at s i) {m : Macro} {e : ℕ} (g : definition_at s i ≡ good m e) where
  module _ (fs : Formals) (k : shape_by s h ≡ fs) where
    defined : definition_at s i ≡ defined_by s w h fs
    unfolding definition_at
    defined = rw (← p, ← q, k)

    judged_so : judged_by s h w.end fs ≡ good m e
    judged_so =
        let f = bars_of w (text_at s fs) in
        unbarred (eqb f.number 0) (judged_by s h w.end fs) f.number f.place (sym defined ∙ g)

  pub good_shape : shape_by s h ≡ ill → ⊥
  good_shape k = not_good (judged_by s h w.end ill) refl (judged_so ill k)

  -- it stands in a text that is not empty
  pub good_some : 0 < length s
  good_some = by_none (length s) (λ l. l) (λ l. absurd (good_shape (ap (shape_by s) (q ∙ head_empty s i l))))

  -- its head and formals are read, unless the bytes for brackets are fewer than those of the text
  pub good_unread : {work : List ℕ} {v : ReadError} (o o' : List ℕ) → length s < 18446744073709551615
      → Settled work (length s) (Err NoRoom) (list_of (shape_by s h)) (Err v) → FormBy (Err v) s work m o o'
  good_unread {v = IllFormed} o o' l t = good_shape (told_ill (shape_by s h) t)
  good_unread {work = work} {v = NoRoom} o o' l t = inl (full_fewer work (length s) good_some l (told_few (shape_by s h) t))

  module _ {fs : List Formal} {x : ℕ} (k : shape_by s h ≡ whole fs x) where
    told : Unspoilt (is_bad s (part s h.from h.end) fs (stored s x w.end)) (macro (part s h.from h.end) (parameters_of s fs) (stored s x w.end)) m
    told =
        unspoilt (is_bad s (part s h.from h.end) fs (stored s x w.end))
        (macro (part s h.from h.end) (parameters_of s fs) (stored s x w.end)) w.end (judged_so (whole fs x) k)

    too_many : 16 < length fs → is_bad s (part s h.from h.end) fs (stored s x w.end) ≡ true
    too_many l =
        by_none _ (bad_name s h fs x w.end refl refl) (λ z. bad_count s h fs x w.end refl refl z refl l)

    pub good_few : 16 < length fs → ⊥
    good_few l = true_not_false (sym (too_many l) ∙ told.judged)

    pub good_macro : macro (part s h.from h.end) (parameters_of s fs) (stored s x w.end) ≡ m
    good_macro = told.same
