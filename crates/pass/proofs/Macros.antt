-- Macro by macro: the tokens of one's text at the end of a list, its verdict, and the answer from it on.
-- Assumes nothing.
use Prim.Native.Nat.{ℕ, suc, ◌+◌, ◌-◌, ◌<◌, ◌≤◌}
use mathlib.Core.Bool.{Bool, cond}
use mathlib.Core.Option.{Option, none, some}
use mathlib.Core.List.{List, []}
use mathlib.Core.Path.{◌≡◌, sym, ap, ◌∙◌}
use native.Mathlib.Numerals.{add-one}
use native.Mathlib.Omega.{arith}
use lib.ListN.{length, take, drop, get_or, length-append, length-take, length-drop}
use lib.Seq.{take_all}
use Rattle.definition.specs.Definitions.{Macro, macro}
use Rattle.form.specs.Forms.{list_form, head_form, text_start}
use Rattle.packed.specs.Records.{blank_record, RecordIs}
use Rattle.packed.specs.declared.Record.{Record}
use Rattle.store.specs.Stores.{macro_at}
use Rattle.store.specs.Buffers.{Holds}
use Rattle.store.proofs.Entries.{start, Told, told, entry}
use Rattle.sets.specs.Sets.{elem, members}
use Rattle.sets.specs.declared.MacroSet.{MacroSet}
use Rattle.pending.specs.Pending.{Pending}
use Rattle.pending.specs.References.{stacked}
use Rattle.expand.proofs.Calling.{macro_in}
use Rattle.reach.specs.Reaching.{set_of, has_bit}
use Rattle.reach.proofs.Joining.{row_read}
use Rattle.passing.specs.Passing.{or_next, text_fault, tokens_of, text_at, reaches, macro_fault, yes, fault, pass_at, pass_from, pass_of}
use Rattle.std.proofs.Common.{Result, Ok, Err}
use Rattle.pass.specs.Judging.{verdict_of, Unfolds}
use Rattle.pass.proofs.Faults.{verdict_good, verdict_bad}

-- ---- a text

-- the last m of l
abbrev pub last_in : List (List ℕ) → ℕ → List (List ℕ)
last_in l m = take (length l - (length l - m)) (drop (length l - m) l)

last_is : (l : List (List ℕ)) (m : ℕ) → last_in l m ≡ drop (length l - m) l
last_is l m = take_all (length l - (length l - m)) (drop (length l - m) l) (omega (arith, length-drop (length l - m) l))

pub last_fits : {b : List ℕ} {q : Record} {o o' : List (List ℕ)} {m : ℕ} → Unfolds b q o o' m → m ≤ length (last_in o' m)
last_fits {o' = o'} {m = m} u = rw (last_is o' m) (omega (arith, length-drop (length o' - m) o', u.few, u.same_length))

-- a name and the number of formals stand before the text
text_past : (m : Macro) → 1 ≤ text_start m
unfolding text_start head_form
text_past (macro n fs t) = omega (arith, length-append n (list_form fs))

-- that of macro i, whose record is q, was unfolded
module _ {ms : List Macro} {b : List ℕ} {r : List (List ℕ)} {n : ℕ} (h : Holds ms b r n) (small : length b ≤ 65536) (i : ℕ) (l : i < n) {q : Record}
    (k : RecordIs (get_or r i blank_record) q) {o o' : List (List ℕ)} {m : ℕ} (u : Unfolds b q o o' m) where
  pub last_tokens : stacked b b (last_in o' m) m ≡ text_at ms i
  last_tokens =
      ap (λ (x : List (List ℕ)). stacked b b x m) (last_is o' m) ∙ ap (λ (x : ℕ). stacked b b (drop (x - m) o') m) u.same_length ∙ u.tokens b
      ∙ ap tokens_of (macro_in h small i l k).text

  pub last_small : m ≤ 65535
  last_small =
      let t : Told (start ms i) (macro_at ms i) q = told (entry h i l) k in
      let p : ℕ = q.text + q.size in
      omega (arith, u.short, t.text_is, text_past (macro_at ms i), length-take (p - q.text) (drop q.text b), length-drop q.text b)

-- ---- a verdict

-- 16, of a macro that reaches itself
abbrev recursive : Bool → Option ℕ
recursive b = cond b (some 16) none

module _ (ms : List Macro) (rows : List (List ℕ)) (i : ℕ) where
  -- the fault of macro i, by its row
  abbrev pub fault_by : Option ℕ
  fault_by = or_next (text_fault ms (text_at ms i)) (recursive (has_bit rows i i))

  -- its text, of the tokens ts, was judged to be v
  module _ (ts : List Pending) (t : ts ≡ text_at ms i) {v : Result (Unit {0}) ℕ} (e : v ≡ verdict_of (text_fault ms ts)) where
    judged : v ≡ verdict_of (text_fault ms (text_at ms i))
    judged = e ∙ ap (λ (x : List Pending). verdict_of (text_fault ms x)) t

    pub macro_bad : (c : ℕ) → v ≡ Err c → Err c ≡ verdict_of fault_by
    macro_bad c z = sym (ap (λ (x : Option ℕ). verdict_of (or_next x (recursive (has_bit rows i i)))) (verdict_bad (text_fault ms (text_at ms i)) c (sym z ∙ judged)))

    pub macro_by : v ≡ Ok tt → {s : MacroSet} → s ≡ set_of (get_or rows i []) → {x : Bool} → x ≡ elem i (members s) → (y : Bool) → x ≡ y
        → verdict_of (recursive y) ≡ verdict_of fault_by
    unfolding has_bit
    macro_by z {s} f {x} g y d =
        sym (ap (λ (w : Option ℕ). verdict_of (or_next w (recursive (has_bit rows i i)))) (verdict_good (text_fault ms (text_at ms i)) (sym z ∙ judged))
        ∙ ap (λ (w : Bool). verdict_of (recursive w)) (ap (λ (w : MacroSet). elem i (members w)) (sym (f ∙ row_read rows i)) ∙ sym g ∙ d))

  -- ---- the answer from macro i on, of n, whose row says what it reaches and whose verdict is v

  module _ (n : ℕ) (l : i < n) (g : has_bit rows i i ≡ reaches ms (length ms) i i) {v : Result (Unit {0}) ℕ} (e : v ≡ verdict_of fault_by) where
    fault_is : v ≡ verdict_of (macro_fault ms i)
    unfolding macro_fault
    fault_is = e ∙ ap (λ (x : Bool). verdict_of (or_next (text_fault ms (text_at ms i)) (recursive x))) g

    from_here : pass_from ms i (n - i) ≡ pass_at (macro_fault ms i) i (pass_from ms (i + 1) (n - (i + 1)))
    unfolding pass_from
    from_here =
        let a : n - i ≡ suc (n - (i + 1)) = omega arith in
        ap (pass_from ms i) a ∙ ap (λ (j : ℕ). pass_at (macro_fault ms i) i (pass_from ms j (n - (i + 1)))) (sym (add-one i))

    pub pass_next : v ≡ Ok tt → pass_from ms i (n - i) ≡ pass_from ms (i + 1) (n - (i + 1))
    pass_next z = from_here ∙ ap (λ (x : Option ℕ). pass_at x i (pass_from ms (i + 1) (n - (i + 1)))) (verdict_good (macro_fault ms i) (sym z ∙ fault_is))

    pub pass_here : (c : ℕ) → v ≡ Err c → pass_from ms i (n - i) ≡ fault i c
    pass_here c z = from_here ∙ ap (λ (x : Option ℕ). pass_at x i (pass_from ms (i + 1) (n - (i + 1)))) (verdict_bad (macro_fault ms i) c (sym z ∙ fault_is))

-- all the macros
pub pass_all : {ms : List Macro} {b : List ℕ} {r : List (List ℕ)} {n : ℕ} → Holds ms b r n → pass_of ms ≡ pass_from ms 0 (n - 0)
unfolding pass_of
pass_all {ms} {n = n} h = let e : length ms ≡ n - 0 = omega (arith, h.count) in ap (pass_from ms 0) e

-- none is left
pub pass_end : (ms : List Macro) (i n : ℕ) → n ≤ i → pass_from ms i (n - i) ≡ yes
unfolding pass_from
pass_end ms i n h = let e : n - i ≡ 0 = omega arith in ap (pass_from ms i) e
