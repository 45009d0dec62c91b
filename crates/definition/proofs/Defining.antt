-- The definition at an index, by its extent, its head and the shape that was read.
-- Assumes nothing.
use Prim.Native.Nat.{ℕ, ◌<◌, ◌≤◌}
use mathlib.Core.Bool.{Bool, true, false, cond, ◌||◌}
use mathlib.Core.List.{List, []}
use mathlib.Core.Path.{◌≡◌, refl, sym, ap, subst, ◌∙◌}
use native.Mathlib.Omega.{arith}
use lib.Dec.{ltb}
use lib.ListN.{length}
use borrow.Author.Tests.{eq-eqb, ne_eqb, lt-ltb, le-ltb}
use Rattle.std.specs.Prelude.{Some, None, Ok, Err}
use Rattle.text.specs.Bytes.{part}
use Rattle.lex.specs.declared.Fault.{Fault}
use Rattle.names.specs.Names.{directive_of, is_directive}
use Rattle.brackets.specs.Stacks.{Full, Settled, full, over}
use Rattle.brackets.proofs.Settling.{settled_as, settled_full, settled_over}
use Rattle.storing.specs.Stored.{stored}
use Rattle.afresh.specs.Judging.{bad_text}
use Rattle.afresh.specs.Feeding.{verdict_of}
use Rattle.definition.specs.Extents.{extent_at, bars_of, Free}
use Rattle.definition.specs.Heads.{head_at}
use Rattle.definition.specs.Lists.{Formals, ill, whole, formals_at}
use Rattle.definition.specs.Definitions.{Definition, macro, bad, good, parameters_of, bad_formals, is_bad, shape_by, text_at, judged_by, defined_by, unless_barred, definition_at}
use Rattle.definition.specs.Answers.{list_of, judged_of}
use Rattle.definition.specs.declared.Extent.{Extent}
use Rattle.definition.specs.declared.Head.{Head}
use Rattle.definition.specs.declared.Formal.{Formal}
use Rattle.definition.specs.declared.ReadError.TheVariants.{IllFormed, NoRoom}
use Rattle.definition.specs.declared.Judged.{Judged}
use Rattle.definition.specs.declared.Judged.TheVariants as judged
use Rattle.definition.proofs.Counting.{Counts}
use Rattle.definition.proofs.Onward.{head_free, unbarred_free}
use Rattle.definition.proofs.Verdicts.{or_first, or_next, told, told_short}

-- the formals of a head that is whole
whole_head : (w : Bool) (g : Formals) {fs : List Formal} {x : ℕ} → cond w g ill ≡ whole fs x → g ≡ whole fs x
whole_head true g p = p
whole_head false g p = absurd (let z : ◌≡◌ {A = ℕ} 0 1 = cc in omega arith)

is_whole : (w : Bool) (g : Formals) {fs : List Formal} {x : ℕ} → cond w g ill ≡ whole fs x → w ≡ true
is_whole true g p = refl
is_whole false g p = absurd (let z : ◌≡◌ {A = ℕ} 0 1 = cc in omega arith)

module _ (s : List ℕ) (h : Head) {fs : List Formal} {x : ℕ} (p : shape_by s h ≡ whole fs x) where
  pub unlisted_none : h.listed ≡ false → fs ≡ []
  unlisted_none e = let z : whole [] h.next ≡ whole fs x = rw e at (whole_head h.whole (cond h.listed (formals_at s h.next) (whole [] h.next)) p) in cc

  pub listed_formals : h.listed ≡ true → formals_at s h.next ≡ whole fs x
  listed_formals e = rw e at (whole_head h.whole (cond h.listed (formals_at s h.next) (whole [] h.next)) p)

-- what a shape that was read tells of the formals
pub record Shaped (g : Formals) (n x : ℕ) : Type 0 where
  pub formals : List Formal
  pub shape : g ≡ whole formals x
  pub count : n ≡ length formals

-- the number of formals and the end that were read
abbrev count_of : Counts → ℕ
count_of (Ok p) = p.0
count_of (Err e) = 0

abbrev end_of : Counts → ℕ
end_of (Ok p) = p.1
end_of (Err e) = 0

list_full : (g : Formals) → list_of g ≡ Err NoRoom → ⊥
list_full ill e = cc
list_full (whole fs y) e = cc

module _ {o : List ℕ} {m : ℕ} where
  pub told_shape : (g : Formals) {n x : ℕ} → Settled o m (Err NoRoom) (list_of g) (Ok (n, x)) → Shaped g n x
  told_shape ill h = absurd (let z : ◌≡◌ {A = Counts} (Ok (_, _)) (Err IllFormed) = settled_full h (λ q. cc) in cc)
  told_shape (whole fs y) {n} {x} h =
      let z : ◌≡◌ {A = Counts} (Ok (n, x)) (Ok (length fs, y)) = settled_full h (λ q. cc) in
      record { formals = fs; shape = ap (λ (c : Counts). whole fs (end_of c)) (sym z); count = ap count_of z }

  pub told_ill : (g : Formals) → Settled o m (Err NoRoom) (list_of g) (Err IllFormed) → g ≡ ill
  told_ill ill h = refl
  told_ill (whole fs y) h = absurd (let z : ◌≡◌ {A = Counts} (Err IllFormed) (Ok (length fs, y)) = settled_full h (λ q. cc) in cc)

  pub told_few : (g : Formals) → Settled o m (Err NoRoom) (list_of g) (Err NoRoom) → Full o m
  told_few g h = settled_over h refl (list_full g)

-- the definition of a head that is whole, with its formals and its text from x to before e
module _ (s : List ℕ) (h : Head) (fs : List Formal) (x e : ℕ) where
  abbrev named_so : List ℕ
  named_so = part s h.from h.end

  abbrev judgement : Bool
  judgement = is_bad s named_so fs (stored s x e)

  -- is bad by one test after another
  module _ {u : List ℕ} {d : ℕ} (p : u ≡ named_so) (q : d ≡ directive_of u) where
    a_directive : is_directive named_so ≡ ltb 0 d
    a_directive = rw (← p, ← q)

    pub bad_name : 0 < d → judgement ≡ true
    bad_name z = or_first (is_directive named_so) (ltb 16 (length fs) || (bad_formals s fs || bad_text (stored s x e))) (a_directive ∙ lt-ltb 0 d z)

    module _ (z : d ≤ 0) {k : ℕ} (n : k ≡ length fs) where
      past_name : judgement ≡ (ltb 16 k || (bad_formals s fs || bad_text (stored s x e)))
      past_name = rw n (or_next (is_directive named_so) (ltb 16 (length fs) || (bad_formals s fs || bad_text (stored s x e))) (a_directive ∙ le-ltb 0 d z))

      pub bad_count : 16 < k → judgement ≡ true
      bad_count l = past_name ∙ or_first (ltb 16 k) (bad_formals s fs || bad_text (stored s x e)) (lt-ltb 16 k l)

      module _ (l : k ≤ 16) where
        past_count : judgement ≡ (bad_formals s fs || bad_text (stored s x e))
        past_count = past_name ∙ or_next (ltb 16 k) (bad_formals s fs || bad_text (stored s x e)) (le-ltb 16 k l)

        pub bad-formals : bad_formals s fs ≡ true → judgement ≡ true
        bad-formals b = past_count ∙ or_first (bad_formals s fs) (bad_text (stored s x e)) b

        pub bad-text : bad_formals s fs ≡ false → bad_text (stored s x e) ≡ judgement
        bad-text b = sym (past_count ∙ or_next (bad_formals s fs) (bad_text (stored s x e)) b)

  -- and judged by the verdict
  judged-by : Bool → Definition
  judged-by b = cond b (bad e) (good (macro named_so (parameters_of s fs) (stored s x e)) e)

  module _ {o : List ℕ} {m : ℕ} where
    pub judged_bad : {b : Bool} → Settled o m None (verdict_of judgement) (Some b) → b ≡ true → Settled o m judged.Short (judged_of (judged_by s h e (whole fs x))) (judged.Bad e)
    unfolding judged-by
    judged_bad v q = full (ap (λ (b : Bool). judged_of (judged-by b)) (sym (told v ∙ q)))

    pub judged_good : {b : Bool} → Settled o m None (verdict_of judgement) (Some b) → b ≡ false → Settled o m judged.Short (judged_of (judged_by s h e (whole fs x))) (judged.Good e)
    unfolding judged-by
    judged_good v q = full (ap (λ (b : Bool). judged_of (judged-by b)) (sym (told v ∙ q)))

    pub judged_short : Settled o m None (verdict_of judgement) None → Settled o m judged.Short (judged_of (judged_by s h e (whole fs x))) judged.Short
    judged_short v = over refl (told_short v)

-- the definition at i
module _ (s : List ℕ) (i : ℕ) {w : Extent} {h : Head} (p : w ≡ extent_at s i) (q : h ≡ head_at s i) (g : Formals) (k : shape_by s h ≡ g) where
  defined : definition_at s i ≡ defined_by s w h g
  unfolding definition_at
  defined = rw (← p, ← q, k)

  module _ (f : Fault) (e : f ≡ bars_of w (text_at s g)) where
    by_bars : definition_at s i ≡ unless_barred f (judged_by s h w.end g)
    by_bars = defined ∙ ap (λ (x : Fault). unless_barred x (judged_by s h w.end g)) (sym e)

    pub defined_barred : (f.number ≡ 0 → ⊥) → judged.Barred f.number f.place ≡ judged_of (definition_at s i)
    defined_barred n = rw (by_bars, ne_eqb f.number 0 n)

    pub defined_judged : f.number ≡ 0 → definition_at s i ≡ judged_by s h w.end g
    defined_judged n = rw (by_bars, eq-eqb f.number 0 n)

    -- nothing bars what stands behind its head
    defined_free : f.number ≡ 0 → {fs : List Formal} {x : ℕ} → g ≡ whole fs x → Free s h.next
    defined_free n z =
        let b : (bars_of (extent_at s i) (text_at s g)).number ≡ 0 = ap (λ (r : Fault). r.number) (sym (e ∙ ap (λ (v : Extent). bars_of v (text_at s g)) p)) ∙ n in
        subst (λ (k : Head). k.whole ≡ true → Free s k.next) (sym q) (head_free s i (unbarred_free s i (text_at s g) b))
        (is_whole h.whole (cond h.listed (formals_at s h.next) (whole [] h.next)) (k ∙ z))

    pub defined_whole : f.number ≡ 0 → {fs : List Formal} {x : ℕ} → g ≡ whole fs x → {o : List ℕ} {m : ℕ} {r : Judged}
        → (Free s h.next → Settled o m judged.Short (judged_of (judged_by s h w.end g)) r) → Settled o m judged.Short (judged_of (definition_at s i)) r
    defined_whole n z v = settled_as (ap judged_of (sym (defined_judged n))) (v (defined_free n z))
