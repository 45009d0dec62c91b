-- The verdicts on a usage, on a token and on a text from a token on.
-- Assumes nothing.
use Prim.Native.Nat.{ℕ, suc, ◌+◌, ◌-◌, ◌<◌, ◌≤◌}
use mathlib.Core.Bool.{Bool, true, false}
use mathlib.Core.Option.{Option, none, some}
use mathlib.Core.List.{List, [], ◌∷◌}
use mathlib.Core.Path.{◌≡◌, refl, sym, ap, ap₂, subst, ◌∙◌}
use native.Mathlib.Omega.{arith}
use lib.ListN.{length, drop, get_or}
use Rattle.definition.specs.Definitions.{Parameter, Macro, macro}
use Rattle.packed.specs.Records.{blank_record, RecordIs}
use Rattle.packed.specs.declared.Record.{Record}
use Rattle.store.specs.Stores.{macro_at, find}
use Rattle.store.specs.Buffers.{Holds}
use Rattle.std.proofs.Common.{Result, Ok, Err}
use Rattle.store.proofs.Places.{found_below}
use Rattle.packed.proofs.Rows.{any_default}
use Rattle.pending.specs.declared.Pend.{Pend}
use Rattle.pending.specs.Pending.{Pending, View, is_call, view}
use Rattle.pending.specs.References.{pend_of, pending_by, blank, stacked}
use Rattle.pending.specs.Sources.{items_from}
use Rattle.pending.proofs.Viewing.{not_usage}
use Rattle.lex.specs.declared.Fault.{Fault}
use Rattle.replace.specs.Placing.{MacroIn}
use Rattle.replace.specs.Replacing.{list_for}
use Rattle.expand.specs.Standing.{Accepts, AcceptedBy}
use Rattle.expand.proofs.Calling.{formals_of, macro_in}
use Rattle.expand.proofs.Replacing.{stacked_drop, items_list}
use Rattle.expand.proofs.Naming.{usage_view}
use Rattle.passing.specs.Passing.{or_next, formals_of as formals, bar_of, found_fault, usage_fault, fault_of, text_fault}
use Rattle.pass.specs.Judging.{verdict_of}

pub verdict_good : (f : Option ℕ) → Ok tt ≡ verdict_of f → f ≡ none
verdict_good none e = refl
verdict_good (some n) e = let z : ◌≡◌ {A = ℕ} 0 1 = cc in absurd (omega arith)

pub verdict_bad : (f : Option ℕ) (n : ℕ) → Err n ≡ verdict_of f → f ≡ some n
verdict_bad none n e = let z : ◌≡◌ {A = ℕ} 0 1 = cc in absurd (omega arith)
verdict_bad (some m) n e = cc

-- ---- a usage

formals_same : (m : Macro) → formals_of m ≡ formals m
formals_same (macro n fs t) = refl

-- of w, by what the search answered
module _ (w : List ℕ) (ps : List Pending) {ms : List Macro} {b : List ℕ} {r : List (List ℕ)} {n : ℕ} {f : Result ℕ ℕ} (h : Holds ms b r n) (e : f ≡ find w ms) where
  usage_by : (g : Result ℕ ℕ) → f ≡ g → usage_fault ms w ps ≡ found_fault g ms ps
  unfolding usage_fault
  usage_by g a = ap (λ (x : Result ℕ ℕ). found_fault x ms ps) (sym e ∙ a)

  pub usage_missing : (i : ℕ) → f ≡ Err i → Err 13 ≡ verdict_of (usage_fault ms w ps)
  usage_missing i a = sym (ap verdict_of (usage_by (Err i) a))

  -- the list of macro i, whose record is q, was sought
  module _ (i : ℕ) (a : f ≡ Ok i) (small : length b ≤ 65536) {q : Record} (k : RecordIs (get_or r i blank_record) q) (g : ℕ → List Pending) (last : ℕ)
      (ranges : List (List ℕ)) (o : Result (ℕ × ℕ) Fault) (s : (fs : List Parameter) (t : List ℕ) → MacroIn b q fs t → AcceptedBy o (list_for fs ps) g last ranges) where
    bar_is : usage_fault ms w ps ≡ bar_of (list_for (formals_of (macro_at ms i)) ps)
    bar_is = usage_by (Ok i) a ∙ ap (λ (fs : List Parameter). bar_of (list_for fs ps)) (sym (formals_same (macro_at ms i)))

    sought_by : (v : Result (ℕ × ℕ) Fault) → o ≡ v → AcceptedBy v (list_for (formals_of (macro_at ms i)) ps) g last ranges
    sought_by v z =
        subst (λ (x : Result (ℕ × ℕ) Fault). AcceptedBy x (list_for (formals_of (macro_at ms i)) ps) g last ranges) z (s _ _ (macro_in h small i (found_below w h e i a) k))

    pub usage_good : (l : ℕ × ℕ) → o ≡ Ok l → Ok tt ≡ verdict_of (usage_fault ms w ps)
    usage_good l z =
        let y : Accepts (list_for (formals_of (macro_at ms i)) ps) g last ranges l.0 l.1 = sought_by (Ok l) z in
        sym (ap verdict_of (bar_is ∙ ap bar_of y.shape))

    pub usage_bad : (e : Fault) → o ≡ Err e → Err e.number ≡ verdict_of (usage_fault ms w ps)
    usage_bad e z = sym (ap verdict_of (bar_is ∙ ap bar_of (sought_by (Err e) z)))

-- ---- a token

-- token k of the n
stacked_at : (s b : List ℕ) (l : List (List ℕ)) (n k : ℕ) → k < n → drop k (stacked s b l n) ≡ pending_by s b (pend_of (get_or l (n - 1 - k) blank)) ∷ stacked s b l (n - (k + 1))
unfolding stacked
stacked_at s b l n k h =
    let e : n - k ≡ suc (n - 1 - k) = omega arith in
    let g : n - 1 - k ≡ n - (k + 1) = omega arith in
    stacked_drop s b l n k (omega arith) ∙ ap (stacked s b l) e
    ∙ ap (λ (j : ℕ). pending_by s b (pend_of (get_or l (n - 1 - k) blank)) ∷ stacked s b l j) g

-- .. is p, followed by ps, and x its reference
module _ (b : List ℕ) (l : List (List ℕ)) (n k : ℕ) (h : k < n) (g : n ≤ length l) (p : Pending) (ps : List Pending) (e : drop k (stacked b b l n) ≡ p ∷ ps)
    {x : Pend} (z : x ≡ pend_of (get_or l (n - 1 - k) [])) where
  both : pending_by b b x ∷ stacked b b l (n - (k + 1)) ≡ p ∷ ps
  both =
      ap (λ (y : Pend). pending_by b b y ∷ stacked b b l (n - (k + 1))) (z ∙ ap pend_of (any_default l (n - 1 - k) [] blank (omega arith)))
      ∙ sym (stacked_at b b l n k h) ∙ e

  token_is : pending_by b b x ≡ p
  token_is = let q : pending_by b b x ∷ stacked b b l (n - (k + 1)) ≡ p ∷ ps = both in cc

  rest_is : items_from b b l n false (k + 1) ≡ ps
  rest_is =
      let q : pending_by b b x ∷ stacked b b l (n - (k + 1)) ≡ p ∷ ps = both in
      let i : stacked b b l (n - (k + 1)) ≡ ps = cc in
      items_list b b l n (k + 1) (omega arith) ∙ i

  module _ (ms : List Macro) {t : Bool} (c : t ≡ is_call (view (pending_by b b x))) where
    pub token_usage : t ≡ true → {w : List ℕ} → w ≡ (pending_by b b x).name → {r : Result (Unit {0}) ℕ} → r ≡ verdict_of (usage_fault ms w (items_from b b l n false (k + 1)))
        → r ≡ verdict_of (fault_of (view p) ms ps)
    token_usage a {w} d {r} v =
        v
        ∙ ap verdict_of (ap₂ (λ (y : List ℕ) (qs : List Pending). usage_fault ms y qs) d rest_is
        ∙ ap (λ (y : View). fault_of y ms ps) (sym (usage_view b b x (sym c ∙ a)) ∙ ap view token_is))

    pub token_other : t ≡ false → Ok tt ≡ verdict_of (fault_of (view p) ms ps)
    token_other a =
        sym (ap verdict_of (ap (λ (y : Pending). fault_of (view y) ms ps) (sym token_is) ∙ not_usage (view (pending_by b b x)) none _ (sym c ∙ a)))

-- ---- a text

-- of which token k, and what follows it, was judged to be v
module _ (b : List ℕ) (l : List (List ℕ)) (n k : ℕ) (ms : List Macro) (h : k < n) {v : Result (Unit {0}) ℕ}
    (j : (p : Pending) (ps : List Pending) → drop k (stacked b b l n) ≡ p ∷ ps → v ≡ verdict_of (fault_of (view p) ms ps)) where
  abbrev step : Option ℕ
  step = fault_of (view (pending_by b b (pend_of (get_or l (n - 1 - k) blank)))) ms (stacked b b l (n - (k + 1)))

  judged : v ≡ verdict_of step
  judged = j _ _ (stacked_at b b l n k h)

  from_here : text_fault ms (drop k (stacked b b l n)) ≡ or_next step (text_fault ms (stacked b b l (n - (k + 1))))
  unfolding text_fault
  from_here = ap (text_fault ms) (stacked_at b b l n k h)

  pub text_good : v ≡ Ok tt → text_fault ms (drop k (stacked b b l n)) ≡ text_fault ms (drop (k + 1) (stacked b b l n))
  text_good e =
      from_here ∙ ap (λ (f : Option ℕ). or_next f (text_fault ms (stacked b b l (n - (k + 1))))) (verdict_good step (sym e ∙ judged))
      ∙ ap (text_fault ms) (sym (stacked_drop b b l n (k + 1) (omega arith)))

  pub text_bad : (c : ℕ) → v ≡ Err c → text_fault ms (drop k (stacked b b l n)) ≡ some c
  text_bad c e = from_here ∙ ap (λ (f : Option ℕ). or_next f (text_fault ms (stacked b b l (n - (k + 1))))) (verdict_bad step c (sym e ∙ judged))

-- no token is left
pub text_end : (b : List ℕ) (l : List (List ℕ)) (n k : ℕ) (ms : List Macro) → k ≤ n → n ≤ k → text_fault ms (drop k (stacked b b l n)) ≡ none
unfolding text_fault stacked
text_end b l n k ms g h = let e : n - k ≡ 0 = omega arith in ap (text_fault ms) (stacked_drop b b l n k g ∙ ap (stacked b b l) e)
