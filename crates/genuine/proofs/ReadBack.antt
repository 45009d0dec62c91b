-- A macro that some definition stores, spelled out as a definition, is read back.
-- Assumes nothing.
use Prim.Native.Nat.{ℕ, ◌≤◌}
use mathlib.Core.Bool.{true, false, not, ◌&&◌}
use mathlib.Core.List.{List}
use mathlib.Core.Path.{◌≡◌, ap, ◌∙◌}
use native.Mathlib.Omega.{arith}
use lib.Dec.{leb}
use lib.ListN.{length}
use borrow.Author.Tests.{leb-true, le-ltb, not-true}
use Rattle.text.specs.Bytes.{part}
use Rattle.lex.specs.Faults.{no_fault}
use Rattle.lex.proofs.Tests.{and_left, and_right}
use Rattle.names.specs.Names.{is_directive}
use Rattle.storing.specs.Stored.{trim_right, stored}
use Rattle.afresh.specs.Unfit.{unfit_text}
use Rattle.definition.specs.Extents.{extent_at, bars_of}
use Rattle.definition.specs.Heads.{head_at}
use Rattle.definition.specs.Lists.{Formals, whole}
use Rattle.definition.specs.Definitions.{Parameter, Macro, macro, parameters_of, shape_by, good, is_bad, judged_by, defined_by, definition_at}
use Rattle.definition.specs.declared.Extent.{Extent}
use Rattle.definition.specs.declared.Formal.{Formal}
use Rattle.definition.specs.declared.Head.{Head}
use Rattle.genuine.specs.Fitness.{is_short, all_solid, fit_name, fit_parameters, fit_stored, fit_macro}
use Rattle.genuine.specs.Spelling.{spelled, definition_of, word_end}
use Rattle.genuine.proofs.Spelled.{TextRead}
use Rattle.genuine.proofs.Texts.{text_read}
use Rattle.genuine.proofs.Keeping.{Kept, kept, fit_text}
use Rattle.genuine.proofs.Extended.{Ended, ended_bars, text_ended}
use Rattle.genuine.proofs.Listed.{parameters_length}
use Rattle.genuine.proofs.Headed.{Headed, headed}

-- what a fit macro is
record Fit (n : List ℕ) (ps : List Parameter) (t : List ℕ) : Type 0 where
  name : fit_name n ≡ true
  other : is_directive n ≡ false
  few : length ps ≤ 16
  formals : fit_parameters ps ≡ true
  text : Kept true t

fit : (n : List ℕ) (ps : List Parameter) (t : List ℕ) → fit_macro (macro n ps t) ≡ true → Fit n ps t
unfolding fit_macro fit_name
fit n ps t h =
    let c = fit_parameters ps && fit_stored true t in
    let b = leb (length ps) 16 && c in
    let p : b ≡ true = and_right (fit_name n) b h in
    let q : c ≡ true = and_right (leb (length ps) 16) c p in
    let v : fit_name n ≡ true = and_left (fit_name n) b h in
    record {
      name = v;
      other = not-true (is_directive n) (and_right (all_solid n) (not (is_directive n)) (and_right (is_short n) (all_solid n && not (is_directive n)) v));
      few = leb-true (length ps) 16 (and_left (leb (length ps) 16) c p);
      formals = and_left (fit_parameters ps) (fit_stored true t) q;
      text = kept true t (and_right (fit_parameters ps) (fit_stored true t) q);
    }

-- a definition that nothing bars, by its extent, head and shape
defined : (s n t : List ℕ) (ps : List Parameter) (fs : List Formal) (x : ℕ) (w : Extent) (h : Head) (f : Formals) → f ≡ whole fs x → w.end ≡ length s → bars_of w x ≡ no_fault
    → part s h.from h.end ≡ n → parameters_of s fs ≡ ps → stored s x (length s) ≡ t → is_bad s n fs t ≡ false → defined_by s w h f ≡ good (macro n ps t) (length s)
defined s n t ps fs x w h f a b c d e g k =
    rw (a, c) (ap (λ (y : ℕ). judged_by s h y (whole fs x)) b ∙ rw (d, g, k, e))

pub read_back : (m : Macro) → fit_macro m ≡ true → definition_at (definition_of m) word_end ≡ good m (length (definition_of m))
unfolding definition_at extent_at stored
read_back (macro n ps t) h =
    let s = definition_of (macro n ps t) in
    let a : Fit n ps t = fit n ps t h in
    let d : Headed s n ps (spelled t) = headed n ps t a.name a.formals in
    let b : unfit_text t ≡ false = a.text.fit in
    let r : TextRead s t d.first = text_read s t d.first d.rest b in
    let w : Ended s d.first (extent_at s word_end) = rw (d.quiet.extent word_end) (text_ended s t d.first d.within d.rest b) in
    let v : stored s d.text (length s) ≡ t = ap trim_right d.trims ∙ rw r.stored a.text.trimmed in
    let l : length d.formals ≤ 16 = omega (arith, a.few, parameters_length s d.formals, ap length d.means) in
    defined s n t ps d.formals d.text (extent_at s word_end) (head_at s word_end) (shape_by s (head_at s word_end)) d.shape w.end (ended_bars w d.text d.before)
    d.name d.means v (rw (a.other, le-ltb 16 (length d.formals) l, d.fine) (fit_text t b))
