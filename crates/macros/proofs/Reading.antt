-- A definition read and stored: what the calls on the way answer, and the answer and the macros then.
-- Assumes nothing.
use mathlib.Core.Path.{◌≡◌, refl, sym, ap, ◌∙◌, subst, subst⁻¹}
use mathlib.Core.Logic.{⊎_elim}
use mathlib.Core.Bool.{Bool, true, false, cond, ◌&&◌}
use mathlib.Core.List.{List}
use Prim.Native.Nat.{ℕ, suc, ◌-◌, ◌≤◌, ◌<◌}
use native.Mathlib.Nat.{sub-zero}
use native.Mathlib.Omega.{arith}
use borrow.Author.Tests.{lt-leb}
use lib.Dec.{leb}
use lib.ListN.{length, take, drop}
use Rattle.std.specs.Prelude.{Result, Ok, Err}
use Rattle.text.specs.Bytes.{part}
use Rattle.brackets.specs.Stacks.{Settled, full, over}
use Rattle.definition.specs.Definitions.{Macro, Definition, barred, bad, good, definition_at}
use Rattle.definition.specs.Answers.{judged_of}
use Rattle.definition.specs.declared.Head.{Head}
use Rattle.definition.specs.declared.Judged.{Judged}
use Rattle.definition.specs.declared.Judged.TheVariants as judged
use Rattle.definition.specs.Heads.{head_at}
use Rattle.form.specs.Forms.{form_of}
use Rattle.form.specs.Putting.{FormAt, FormBy}
use Rattle.definition.specs.declared.ReadError.{ReadError}
use Rattle.definition.specs.declared.ReadError.TheVariants as unread
use Rattle.store.specs.Stores.{macro_name, find, define_by, define, encode, fits}
use Rattle.store.specs.Buffers.{Holds, FormIs, Defines}
use Rattle.std.proofs.Common.{Result, Ok, Err, Option, Some, None}
use Rattle.store.proofs.Rooms.{encode_split_long}
use Rattle.genuine.proofs.Tests.{and_false}
use Rattle.macros.specs.Defining.{GoodAt, Reads}
use Rattle.macros.specs.declared.ReadIn.{ReadIn}
use Rattle.macros.specs.declared.ReadIn.TheVariants as read
use Rattle.macros.proofs.Heading.{name_long}

-- ---- the form written

module _ (s work : List ℕ) (m : Macro) (o o' : List ℕ) {f : Result (ℕ × ℕ) ReadError} (b : FormBy f s work m o o') where
  pub form_upto : {k x : ℕ} → f ≡ Ok (k, x) → FormAt m o o' k x
  form_upto e = subst (λ (g : Result (ℕ × ℕ) ReadError). FormBy g s work m o o') e b

  -- with as many work bytes as the text has
  pub form_short : {v : ReadError} → f ≡ Err v → length s ≤ length work → length o < length (form_of m)
  form_short {v} e l = go v (subst (λ (g : Result (ℕ × ℕ) ReadError). FormBy g s work m o o') e b)
    where
      go : (v : ReadError) → FormBy (Err v) s work m o o' → length o < length (form_of m)
      go unread.IllFormed c = absurd c
      go unread.NoRoom c = ⊎_elim (λ h. absurd (omega arith)) (λ h. h) c

pub form_is : (s : List ℕ) (i : ℕ) {e : ℕ} {m : Macro} {o o' p : List ℕ} {k x : ℕ} {h : Head} → definition_at s i ≡ good m e → h ≡ head_at s i → FormAt m o o' k x → p ≡ part o' 0 k
    → FormIs m p (h.end - h.from) x
form_is s i {e} {m} {o} {o'} {p} {k} {x} {h} g q f r = record {
  form_is = r ∙ ap (λ (n : ℕ). take n o') (sub-zero k) ∙ f.bytes;
  name_is = name_long s i q g;
  text_is = f.text;
}

-- ---- the answer

abbrev answered : Option ℕ → ℕ → ReadIn
answered (Some k) e = read.Done k e
answered None e = read.NoRoom

answered_by : (b : Bool) (n e : ℕ) → answered (cond b (Some n) None) e ≡ cond b (read.Done n e) read.NoRoom
answered_by true n e = refl
answered_by false n e = refl

-- a refusal changes nothing
unchanged : {ms : List Macro} {b : List ℕ} {r : List (List ℕ)} {n : ℕ} → Holds ms b r n → Holds ms b r (length ms)
unchanged {ms} {b} {r} h = subst (λ (k : ℕ). Holds ms b r k) h.count h

define_long : (m : Macro) (ms : List Macro) → length (form_of m) ≤ length (encode (define m ms))
unfolding define
define_long m ms = go (find (macro_name m) ms)
  where
    go : (f : Result ℕ ℕ) → length (form_of m) ≤ length (encode (define_by f m ms))
    go (Ok i) = omega (arith, encode_split_long (take i ms) m (drop (suc i) ms))
    go (Err i) = omega (arith, encode_split_long (take i ms) m (drop i ms))

no_room : (rl bl : ℕ) (m : Macro) (ms : List Macro) → bl < length (form_of m) → fits rl bl (define m ms) ≡ false
unfolding fits
no_room rl bl m ms l =
    let new = define m ms in
    let h : leb (length (encode new)) bl ≡ false = lt-leb (length (encode new)) bl (omega (arith, define_long m ms)) in
    and_false (leb (length new) 256) (leb (length new) rl && leb (length (encode new)) bl) (and_false (leb (length new) rl) (leb (length (encode new)) bl) h)

module _ {ms : List Macro} {b b' : List ℕ} {r r' : List (List ℕ)} {m : Macro} {e : ℕ} {x : Definition} (q : x ≡ good m e) where
  pub reads_defined : {d : Option ℕ} → Defines (length r) (length b) (define m ms) ms b' r' d → (g : Option ℕ) → d ≡ g → Reads x ms b b' r r' (answered g e)
  reads_defined {d} h g a = subst⁻¹ (λ (y : Definition). Reads y ms b b' r r' (answered g e)) q (record {
    answer = ap (λ (y : Option ℕ). answered y e) (sym a ∙ h.answer) ∙ answered_by (fits (length r) (length b) (define m ms)) (length (define m ms)) e;
    holds = h.holds;
  })

pub reads_short : (o : List ℕ) {ms : List Macro} {b : List ℕ} {r : List (List ℕ)} {n : ℕ} {m : Macro} {e : ℕ} {x : Definition} → x ≡ good m e → Holds ms b r n → length b ≤ length o → length o < length (form_of m)
    → Reads x ms b b r r read.NoRoom
reads_short o {ms} {b} {r} {n} {m} {e} q h l k =
    let f : fits (length r) (length b) (define m ms) ≡ false = no_room (length r) (length b) m ms (omega arith) in
    subst⁻¹ (λ (y : Definition). Reads y ms b b r r read.NoRoom) q (record { answer = rw f; holds = rw f (unchanged h) })

-- ---- the verdict

barred_is : (d : Definition) {n p : ℕ} → judged.Barred n p ≡ judged_of d → d ≡ barred n p
barred_is (barred k q) e = cc
barred_is (bad y) e = cc
barred_is (good m y) e = cc

bad_is : (d : Definition) {y : ℕ} → judged.Bad y ≡ judged_of d → d ≡ bad y
bad_is (barred k q) e = cc
bad_is (bad y) e = cc
bad_is (good m y) e = cc

good_is : (s : List ℕ) (i y : ℕ) (d : Definition) → definition_at s i ≡ d → judged.Good y ≡ judged_of d → GoodAt s i y
good_is s i y (barred k q) a e = let z : ◌≡◌ {A = ℕ} 0 1 = cc in absurd (omega arith)
good_is s i y (bad k) a e = let z : ◌≡◌ {A = ℕ} 0 1 = cc in absurd (omega arith)
good_is s i y (good m k) a e = let z : k ≡ y = cc in record { defined = m; is_good = a ∙ ap (good m) z }

not_short : (d : Definition) → judged.Short ≡ judged_of d → ⊥
not_short (barred k q) e = let z : ◌≡◌ {A = ℕ} 0 1 = cc in omega arith
not_short (bad y) e = let z : ◌≡◌ {A = ℕ} 0 1 = cc in omega arith
not_short (good m y) e = let z : ◌≡◌ {A = ℕ} 0 1 = cc in omega arith

module _ (s : List ℕ) (i : ℕ) {work : List ℕ} {j : Judged} (t : Settled work (length s) judged.Short (judged_of (definition_at s i)) j) (l : length s < length work)
    (k : length work < 18446744073709551616) where
  right : j ≡ judged_of (definition_at s i)
  right = go t
    where
      go : Settled work (length s) judged.Short (judged_of (definition_at s i)) j → j ≡ judged_of (definition_at s i)
      go (full e) = e
      go (over e f) = absurd (⊎_elim (λ h. omega arith) (λ h. omega arith) f)

  pub good_at : (y : ℕ) → j ≡ judged.Good y → GoodAt s i y
  good_at y e = good_is s i y (definition_at s i) refl (sym e ∙ right)

  pub never_short : j ≡ judged.Short → ⊥
  never_short e = not_short (definition_at s i) (sym e ∙ right)

  module _ {ms : List Macro} {b : List ℕ} {r : List (List ℕ)} {n : ℕ} (h : Holds ms b r n) where
    pub reads_barred : (a p : ℕ) → j ≡ judged.Barred a p → Reads (definition_at s i) ms b b r r (read.Barred a p)
    reads_barred a p e =
        subst⁻¹ (λ (y : Definition). Reads y ms b b r r (read.Barred a p)) (barred_is (definition_at s i) (sym e ∙ right)) (record { answer = refl; holds = unchanged h })

    pub reads_bad : (y : ℕ) → j ≡ judged.Bad y → Reads (definition_at s i) ms b b r r read.Bad
    reads_bad y e =
        subst⁻¹ (λ (y : Definition). Reads y ms b b r r read.Bad) (bad_is (definition_at s i) (sym e ∙ right)) (record { answer = refl; holds = unchanged h })
