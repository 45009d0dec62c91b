-- Every macro that a definition makes is fit.
-- Assumes nothing.
use Prim.Native.Nat.{ℕ, suc}
use mathlib.Core.Bool.{Bool, true, false, cond, ◌||◌}
use mathlib.Core.Option.{none, some}
use mathlib.Core.List.{List, [], ◌∷◌}
use mathlib.Core.Path.{◌≡◌, refl, ap, subst}
use lib.Dec.{eqb, ltb, leb}
use lib.ListN.{length}
use borrow.Author.Tests.{eqb-true, ltb-false, le-leb}
use Rattle.text.specs.Bytes.{same, part}
use Rattle.lex.proofs.Tests.{by_test}
use Rattle.names.specs.Names.{is_directive}
use Rattle.storing.specs.Stored.{stored}
use Rattle.storing.specs.Graves.{has_grave}
use Rattle.afresh.specs.Judging.{bad_text, bad_default}
use Rattle.judging.proofs.NothingMore.{nothing_more}
use Rattle.definition.specs.Extents.{extent_at, bars_of, Free}
use Rattle.definition.specs.Heads.{head_at}
use Rattle.definition.specs.Lists.{Formals, ill, whole, formals_at}
use Rattle.definition.specs.Definitions.{Macro, macro, formal_name, parameters_of, bad_formal, named, bad_among, bad_formals, shape_by, text_at, Definition, barred, bad, good, is_bad, judged_by, definition_at}
use Rattle.definition.specs.Answers.{FreeDefault}
use Rattle.definition.specs.declared.Formal.{Formal}
use Rattle.definition.specs.declared.Head.{Head}
use Rattle.definition.proofs.Onward.{AllFree, ListFree, unbarred_free, head_free, shape_free}
use Rattle.definition.proofs.Shielded.{default_more}
use Rattle.genuine.specs.Fitness.{fit_name, fit_stored, fit_default, is_named, fit_parameters, fit_macro}
use Rattle.genuine.proofs.Tests.{or_left, or_right, passed}
use Rattle.genuine.proofs.Stripping.{stored_trimmed}
use Rattle.genuine.proofs.Naming.{Solid}
use Rattle.genuine.proofs.Onward.{AllFit, FormalsFit, formals-fit}
use Rattle.genuine.proofs.Heading.{head_fit}

name_fit : (n : List ℕ) → Solid n → is_directive n ≡ false → fit_name n ≡ true
unfolding fit_name
name_fit n h d = rw (h.short, h.solid, d)

module _ (s : List ℕ) where
  default_fit : (f : Formal) → FreeDefault s f → bad_formal s f ≡ false → fit_default (cond f.given (some (stored s f.first f.stop)) none) ≡ true
  unfolding bad_formal fit_stored
  default_fit f u = go f.given refl
    where
      go : (b : Bool) → f.given ≡ b → cond b (has_grave s f.first f.stop || bad_default (stored s f.first f.stop)) false ≡ false
          → fit_default (cond b (some (stored s f.first f.stop)) none) ≡ true
      go true g e =
          rw (stored_trimmed s f.first f.stop, default_more s f u g (or_left (has_grave s f.first f.stop) (bad_default (stored s f.first f.stop)) e), or_right (has_grave s f.first f.stop) (bad_default (stored s f.first f.stop)) e)
      go false g e = refl

  named_alike : (n : List ℕ) (fs : List Formal) → is_named n (parameters_of s fs) ≡ named s n fs
  unfolding is_named parameters_of named
  named_alike n [] = refl
  named_alike n (f ∷ fs) = ap (λ (r : Bool). cond (same n (formal_name s f)) true r) (named_alike n fs)

  formals_length : (fs : List Formal) → length (parameters_of s fs) ≡ length fs
  unfolding parameters_of
  formals_length [] = refl
  formals_length (f ∷ fs) = ap suc (formals_length fs)

  parameters_fit : {fs : List Formal} → AllFit s fs → AllFree s fs → bad_formals s fs ≡ false → fit_parameters (parameters_of s fs) ≡ true
  unfolding fit_parameters parameters_of bad_formals
  parameters_fit AllFit.empty AllFree.empty e = refl
  parameters_fit (AllFit.more f fs n h) (AllFree.more u v) e =
      let p = passed (bad_among s f fs) (bad_formals s fs) e in
      let k = named s (formal_name s f) fs in
      rw (n, default_fit f u (or_left (bad_formal s f) k p.0), named_alike (formal_name s f) fs, or_right (bad_formal s f) k p.0)
      (parameters_fit h v p.1)

  macro_fit : (n : List ℕ) (fs : List Formal) (x y : ℕ) → Solid n → AllFit s fs → AllFree s fs → Free s x → is_bad s n fs (stored s x y) ≡ false
      → fit_macro (macro n (parameters_of s fs) (stored s x y)) ≡ true
  unfolding fit_macro fit_stored
  macro_fit n fs x y h k v u e =
      let w = stored s x y in
      let d = ltb 16 (length fs) in
      let b = bad_formals s fs in
      let p : (d || (b || bad_text w)) ≡ false = or_right (is_directive n) (d || (b || bad_text w)) e in
      let q : (b || bad_text w) ≡ false = or_right d (b || bad_text w) p in
      let l : leb (length fs) 16 ≡ true = le-leb (length fs) 16 (ltb-false 16 (length fs) (or_left d (b || bad_text w) p)) in
      rw (name_fit n h (or_left (is_directive n) (d || (b || bad_text w)) e), formals_length fs, l, parameters_fit k v (or_left b (bad_text w) q), stored_trimmed s x y, nothing_more s x y u, or_right b (bad_text w) q)

  -- the name and the formals of a head
  module _ (h : Head) where
    ShapeFit : Formals → Type 0
    ShapeFit ill = Unit {0}
    ShapeFit (whole fs x) = Solid (part s h.from h.end) × AllFit s fs

    listed_fit : (r : Formals) → Solid (part s h.from h.end) → FormalsFit s r → ShapeFit r
    unfolding ShapeFit FormalsFit
    listed_fit ill n k = tt
    listed_fit (whole fs x) n k = (n, k)

    shape_fit : (h.whole ≡ true → Solid (part s h.from h.end)) → (h.whole ≡ true → Free s h.next) → ShapeFit (shape_by s h)
    unfolding ShapeFit
    shape_fit k u =
        by_test ShapeFit h.whole
        (λ w. by_test ShapeFit h.listed (λ l. listed_fit (formals_at s h.next) (k w) (formals-fit s h.next (u w))) (λ l. (k w, AllFit.empty)))
        (λ w. tt)

  GoodFit : Definition → Type 0
  GoodFit (barred n p) = Unit {0}
  GoodFit (bad e) = Unit {0}
  GoodFit (good m e) = fit_macro m ≡ true

  judged_fit : (h : Head) (e : ℕ) (r : Formals) → ShapeFit h r → ListFree s r → GoodFit (judged_by s h e r)
  unfolding ShapeFit ListFree GoodFit
  judged_fit h e ill k v = tt
  judged_fit h e (whole fs x) k v =
      let n = part s h.from h.end in
      by_test GoodFit (is_bad s n fs (stored s x e)) (λ b. tt)
      (λ b. macro_fit n fs x e k.0 k.1 v.0 v.1 b)

pub good_fit : (s : List ℕ) (i : ℕ) (m : Macro) (e : ℕ) → definition_at s i ≡ good m e → fit_macro m ≡ true
unfolding GoodFit definition_at
good_fit s i m e q =
    let h = head_at s i in
    let r = shape_by s h in
    let f = bars_of (extent_at s i) (text_at s r) in
    subst (GoodFit s) q
    (by_test (GoodFit s) (eqb f.number 0)
    (λ z. let u : Free s i = unbarred_free s i (text_at s r) (eqb-true f.number 0 z) in
    judged_fit s h (extent_at s i).end r (shape_fit s h (head_fit s i u) (head_free s i u)) (shape_free s h (head_free s i u)))
    (λ z. tt))
