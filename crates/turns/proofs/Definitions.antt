-- Where a definition ends: no earlier than its word, and within the file. What bars it: one of 2 to 6, at a place in the
-- text.
-- Assumes nothing.
use Prim.Native.Nat.{ℕ, ◌≤◌}
use mathlib.Core.List.{List}
use mathlib.Core.Path.{◌≡◌, subst}
use native.Mathlib.Omega.{arith}
use lib.Dec.{eqb, leb, ltb}
use lib.ListN.{length}
use Rattle.text.specs.Bytes.{part}
use Rattle.lex.specs.declared.Fault.{Fault}
use Rattle.lex.specs.declared.Mode.{Mode}
use Rattle.lex.specs.declared.Token.{Token}
use Rattle.lex.specs.Faults.{no_fault, fault_of, worse_of}
use Rattle.lex.specs.Tokens.{in_definition, is_mark, token_at}
use Rattle.lex.proofs.Tests.{by_test}
use Rattle.lex.proofs.Progress.{Inside}
use Rattle.lex.proofs.Barring.{numbered_some}
use Rattle.lex.proofs.Listing.{by_tokens}
use Rattle.storing.specs.Stored.{stored}
use Rattle.definition.specs.declared.Extent.{Extent}
use Rattle.definition.specs.declared.Head.{Head}
use Rattle.definition.specs.Extents.{mark_of, extent_in, extent_at, bars_of}
use Rattle.definition.specs.Heads.{head_at}
use Rattle.definition.specs.Lists.{Formals, ill, whole}
use Rattle.definition.specs.Definitions.{Macro, Definition, barred, bad, good, is_bad, shape_by, text_at, judged_by, definition_at}
use Rattle.turns.proofs.Inside.{inside_here, token_in}
use Rattle.turns.proofs.Forms.{BarredIn, FaultIn, fault_barred, none_in, token_fault, worse_in}

module _ (s : List ℕ) where
  mark-of : (f : Fault) (t : Token) → FaultIn s f → FaultIn s (fault_of t) → FaultIn s (mark_of f t)
  mark-of f t h g =
      by_test (FaultIn s) (eqb f.number 0)
      (λ e. by_test (FaultIn s) (is_mark t)
      (λ e. record { bars = numbered_some 6 4 (omega arith) (omega arith); place_in = g.place_in }) (λ e. none_in s)) (λ e. h)

  module _ (i : ℕ) where
    record ExtentIn (w : Extent) : Type 0 where
      ends : i ≤ length s → Inside s i w.end
      all_in : FaultIn s w.bars
      mark_in : FaultIn s w.mark

    DefinitionIn : Definition → Type 0
    DefinitionIn (barred n p) = BarredIn s n p
    DefinitionIn (bad e) = i ≤ length s → Inside s i e
    DefinitionIn (good m e) = i ≤ length s → Inside s i e

    extent-in : ExtentIn (extent_at s i)
    unfolding extent_at extent_in
    extent-in =
        by_tokens s
        (λ (m : Mode) (j : ℕ) (ts : List Token). (b k : Fault) → ExtentIn (record { end = j; bars = b; mark = k }) → ExtentIn (extent_in j b k ts))
        (λ m j l b k h. h) (λ m j l q b k h. h)
        (λ m j l q r b k h. let t = token_at m s j in
        let g : FaultIn s (fault_of t) = token_fault s m j (omega arith) in
        r (worse_of b (fault_of t)) (mark_of k t)
        (record {
          ends = λ w. token_in m s i j (h.ends w).past l;
          all_in = worse_in s b (fault_of t) h.all_in g;
          mark_in = mark-of k t h.mark_in g;
        }))
        in_definition i no_fault no_fault (record { ends = inside_here s i; all_in = none_in s; mark_in = none_in s })

    bars_in : (w : Extent) (x : ℕ) → ExtentIn w → FaultIn s (bars_of w x)
    unfolding bars_of
    bars_in w x h =
        by_test (FaultIn s) (leb x w.mark.place) (λ e. h.all_in)
        (λ e. by_test (FaultIn s) (ltb w.bars.place w.mark.place)
        (λ e. worse_in s w.bars w.mark h.all_in h.mark_in) (λ e. worse_in s w.mark w.bars h.mark_in h.all_in))

    judged_in : (h : Head) (e : ℕ) (fs : Formals) → (i ≤ length s → Inside s i e) → DefinitionIn (judged_by s h e fs)
    unfolding DefinitionIn
    judged_in h e ill l = l
    judged_in h e (whole fs x) l =
        by_test DefinitionIn (is_bad s (part s h.from h.end) fs (stored s x e)) (λ q. l) (λ q. l)

    definition_in : DefinitionIn (definition_at s i)
    unfolding DefinitionIn definition_at
    definition_in =
        let h = head_at s i in
        let fs = shape_by s h in
        let f = bars_of (extent_at s i) (text_at s fs) in
        by_test DefinitionIn (eqb f.number 0) (λ e. judged_in h (extent_at s i).end fs extent-in.ends)
        (λ e. fault_barred s f (bars_in (extent_at s i) (text_at s fs) extent-in) e)

    pub bad_inside : i ≤ length s → (e : ℕ) → definition_at s i ≡ bad e → Inside s i e
    unfolding DefinitionIn
    bad_inside w e q = subst DefinitionIn q definition_in w

    pub good_inside : i ≤ length s → (m : Macro) (e : ℕ) → definition_at s i ≡ good m e → Inside s i e
    unfolding DefinitionIn
    good_inside w m e q = subst DefinitionIn q definition_in w

    pub definition_bars : (n p : ℕ) → definition_at s i ≡ barred n p → BarredIn s n p
    unfolding DefinitionIn
    definition_bars n p q = subst DefinitionIn q definition_in
