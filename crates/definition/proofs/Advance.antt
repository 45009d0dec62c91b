-- A definition ends no earlier than its word.
-- Assumes nothing.
use Prim.Native.Nat.{ℕ, ◌≤◌, ◌<◌}
use mathlib.Core.List.{List}
use mathlib.Core.Path.{◌≡◌, subst}
use native.Mathlib.Omega.{arith}
use lib.Dec.{eqb}
use Rattle.text.specs.Bytes.{part}
use Rattle.lex.specs.declared.Fault.{Fault}
use Rattle.lex.specs.declared.Mode.{Mode}
use Rattle.lex.specs.declared.Token.{Token}
use Rattle.lex.specs.Faults.{no_fault, fault_of, worse_of}
use Rattle.lex.specs.Tokens.{in_definition, token_at}
use Rattle.lex.proofs.Tests.{by_test}
use Rattle.lex.proofs.Progress.{token_ends}
use Rattle.lex.proofs.Listing.{by_tokens}
use Rattle.storing.specs.Stored.{stored}
use Rattle.definition.specs.declared.Head.{Head}
use Rattle.definition.specs.Extents.{mark_of, extent_in, extent_at, bars_of}
use Rattle.definition.specs.Heads.{head_at}
use Rattle.definition.specs.Lists.{Formals, ill, whole}
use Rattle.definition.specs.Definitions.{Macro, Definition, barred, bad, good, is_bad, shape_by, text_at, judged_by, definition_at}

-- the tokens of a definition end no earlier than what stands before them
extent_past : (s : List ℕ) (i : ℕ) → i ≤ (extent_at s i).end
unfolding extent_at extent_in
extent_past s i =
    by_tokens s (λ (m : Mode) (j : ℕ) (ts : List Token). (b k : Fault) → i ≤ j → i ≤ (extent_in j b k ts).end)
    (λ m j l b k h. h) (λ m j l q b k h. h)
    (λ m j l q r b k h. let t = token_at m s j in
    let p : j < t.end = token_ends m s j l in
    r (worse_of b (fault_of t)) (mark_of k t) (omega arith)) in_definition i no_fault no_fault (omega arith)

-- a good one ends at i or later
GoodPast : ℕ → Definition → Type 0
GoodPast i (barred n p) = Unit {0}
GoodPast i (bad e) = Unit {0}
GoodPast i (good m e) = i ≤ e

judged_past : (s : List ℕ) (h : Head) (i e : ℕ) (fs : Formals) → i ≤ e → GoodPast i (judged_by s h e fs)
unfolding GoodPast
judged_past s h i e ill l = tt
judged_past s h i e (whole fs x) l =
    by_test (GoodPast i) (is_bad s (part s h.from h.end) fs (stored s x e)) (λ q. tt) (λ q. l)

pub definition_past : (s : List ℕ) (i e : ℕ) (m : Macro) → definition_at s i ≡ good m e → i ≤ e
unfolding GoodPast definition_at
definition_past s i e m q =
    let h = head_at s i in
    let fs = shape_by s h in
    subst (GoodPast i) q
    (by_test (GoodPast i) (eqb (bars_of (extent_at s i) (text_at s fs)).number 0)
    (λ z. judged_past s h i (extent_at s i).end fs (extent_past s i)) (λ z. tt))
