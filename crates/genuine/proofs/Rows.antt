-- A record that the test accepts is that of a macro whose form lies where it says, and it accepts that exactly where the macro is
-- fit and stands behind the name before it.
-- Assumes nothing.
use mathlib.Core.Path.{◌≡◌, refl, sym, ap, ◌∙◌, subst}
use mathlib.Core.Bool.{Bool, true, false, ◌&&◌}
use mathlib.Core.List.{List, [], ◌∷◌, ◌++◌}
use Prim.Native.Nat.{ℕ, suc, ◌+◌, ◌≤◌, ◌<◌}
use native.Mathlib.Omega.{arith}
use borrow.Author.Tests.{ltb-true, leb-true, eqb-true, le-leb, eq-eqb, ne_eqb}
use lib.Dec.{leb, eqb}
use lib.ListN.{length, take, drop, get_or, length-append}
use lib.Seq.{take-take}
use Rattle.text.specs.Bytes.{part}
use Rattle.text.specs.Order.{order_of}
use Rattle.std.specs.declared.cmp.Ordering.{Ordering}
use Rattle.std.specs.declared.cmp.Ordering.TheVariants.{Less, Equal, Greater}
use Rattle.lex.proofs.Tests.{and_left, and_right}
use Rattle.definition.specs.Definitions.{Parameter, Macro, macro}
use Rattle.form.specs.Forms.{parameter_forms, list_form, head_form, form_of, text_start}
use Rattle.packed.specs.Records.{record_of}
use Rattle.store.specs.Stores.{macro_name}
use Rattle.store.specs.Buffers.{row_of}
use Rattle.store.proofs.Entries.{form_length, form_name, name_inside, part_sized}
use Rattle.genuine.specs.Fitness.{fit_name, fit_stored, fit_parameters, fit_macro}
use Rattle.genuine.specs.Layout.{formals_fit, is_less, name_in, end_of, body_fits, entry_fits}
use Rattle.genuine.proofs.Lying.{Lies, lies_front, lies_back, lies_both, lies_part, part_length, part_lies, lies_byte, byte_lies}
use Rattle.genuine.proofs.Blanks.{four}
use Rattle.genuine.proofs.Formals.{Formals, formals-fit, formals_read}

pub less : (o : Ordering) → is_less o ≡ true → o ≡ Less
less Less h = refl
less Equal h = cc
less Greater h = cc

-- a fit macro has a name
pub named : (m : Macro) → fit_macro m ≡ true → 0 < length (macro_name m)
unfolding fit_macro fit_name
named (macro n ps t) h = ltb-true 0 (length n) (search and_left depth 9)

pub below_none : (w : List ℕ) → 0 < length w → order_of [] w ≡ Less
unfolding order_of
below_none [] h = absurd (omega arith)
below_none (x ∷ w) h = refl

pub not_blank : (a n x z : ℕ) → 0 < n → (eqb a 0 && (eqb n 0 && (eqb x 0 && eqb z 0))) ≡ false
not_blank a n x z h = go (eqb a 0) (ne_eqb n 0 (λ e. omega arith))
  where
    go : (t : Bool) → eqb n 0 ≡ false → (t && (eqb n 0 && (eqb x 0 && eqb z 0))) ≡ false
    go true e = rw e
    go false e = refl

-- where the form of a record's macro ends, and its name
pub row_end : (a : ℕ) (m : Macro) → end_of (record_of (row_of a m)) ≡ a + length (form_of m)
row_end a m = omega (arith, form_length m)

pub row_name : (b : List ℕ) (a : ℕ) (m : Macro) → Lies b a (form_of m) → name_in b (record_of (row_of a m)) ≡ macro_name m
row_name b a m h =
    let n : ℕ = length (macro_name m) in
    part_sized b a n
    ∙ sym (take-take n (length (form_of m)) (drop a b) (omega (arith, name_inside m, form_length m)))
    ∙ ap (take n) h.bytes
    ∙ form_name m

-- ---- the test of a record

swap : (a b c : Bool) → (a && (b && c)) ≡ (b && (a && c))
swap true b c = refl
swap false true c = refl
swap false false c = refl

-- where its form lies at a
pub row_fits : (b : List ℕ) (a : ℕ) (w : List ℕ) (m : Macro) → length b ≤ 65536 → Lies b a (form_of m)
    → entry_fits b a w (record_of (row_of a m)) ≡ (is_less (order_of w (macro_name m)) && fit_macro m)
unfolding entry_fits body_fits fit_macro form_of head_form text_start
row_fits b a w (macro n ps t) small h =
    let h₁ : Lies b a (n ++ list_form ps) = lies_front (n ++ list_form ps) t h in
    let hl : Lies b (a + length n) (list_form ps) = lies_back n (list_form ps) h₁ refl in
    let hp : Lies b (a + length n + 1) (parameter_forms ps) = lies_back (length ps ∷ []) (parameter_forms ps) hl refl in
    let ht : Lies b (a + length (n ++ list_form ps)) t = lies_back (n ++ list_form ps) t h refl in
    let e : length (n ++ list_form ps) ≡ length n + suc (length (parameter_forms ps)) = length-append n (list_form ps) in
    let q₁ : eqb a a ≡ true = eq-eqb a a refl in
    let q₂ : leb (a + length (n ++ list_form ps) + length t) (length b) ≡ true = le-leb (a + length (n ++ list_form ps) + length t) (length b) ht.fits in
    let q₃ : leb (a + length n + 1) (a + length (n ++ list_form ps)) ≡ true = le-leb (a + length n + 1) (a + length (n ++ list_form ps)) (omega arith) in
    let q₄ : part b a (a + length n) ≡ n = lies_part (lies_front n (list_form ps) h₁) refl in
    let q₅ : get_or b (a + length n) 0 ≡ length ps = lies_byte (length ps) (parameter_forms ps) hl in
    let q₆ : formals_fit (length ps) b (a + length n + 1) (a + length (n ++ list_form ps)) ≡ fit_parameters ps =
    formals-fit b (a + length n + 1) (a + length (n ++ list_form ps)) ps small hp (omega arith) in
    let q₇ : part b (a + length (n ++ list_form ps)) (a + length (n ++ list_form ps) + length t) ≡ t = lies_part ht refl in
    rw (q₁, q₂, q₃, q₄, q₅, q₆, q₇)
    (swap (fit_name n) (is_less (order_of w n)) (leb (length ps) 16 && (fit_parameters ps && fit_stored true t)))

-- the macro of a record that the test accepts
pub record Row (b : List ℕ) (a : ℕ) (v : List ℕ) : Type 0 where
  pub defined : Macro
  pub lies : Lies b a (form_of defined)
  pub row : v ≡ row_of a defined

row-of : (a : ℕ) (n : List ℕ) (ps : List Parameter) (t : List ℕ) (p y x z : ℕ) → p ≡ a → y ≡ length n → x ≡ a + text_start (macro n ps t) → z ≡ length t
    → p ∷ y ∷ x ∷ z ∷ [] ≡ row_of a (macro n ps t)
row-of a n ps t p y x z e f g h = cc

pub row_read : (b : List ℕ) (a : ℕ) (w v : List ℕ) → ((j : ℕ) → get_or b j 0 < 256) → length b ≤ 65536 → length v ≡ 4 → entry_fits b a w (record_of v) ≡ true → Row b a v
unfolding entry_fits body_fits form_of head_form text_start
row_read b a w v s small l h =
    let p : ℕ = get_or v 0 0 in
    let y : ℕ = get_or v 1 0 in
    let x : ℕ = get_or v 2 0 in
    let z : ℕ = get_or v 3 0 in
    let e₁ : eqb p a ≡ true = search and_left in
    let e₂ : leb (x + z) (length b) ≡ true = search (and_left, and_right) in
    let e₃ : leb (p + y + 1) x ≡ true = search (and_left, and_right) in
    let e₄ : formals_fit (get_or b (p + y) 0) b (p + y + 1) x ≡ true = search (and_left, and_right) depth 9 in
    let q₁ : p ≡ a = eqb-true p a e₁ in
    let q₂ : x + z ≤ length b = leb-true (x + z) (length b) e₂ in
    let q₃ : p + y + 1 ≤ x = leb-true (p + y + 1) x e₃ in
    let n : List ℕ = part b p (p + y) in
    let t : List ℕ = part b x (x + z) in
    let o : Formals b (get_or b (p + y) 0) (p + y + 1) x = formals_read b (get_or b (p + y) 0) (p + y + 1) x s small (omega arith) e₄ in
    let ps : List Parameter = o.parameters in
    let ln : length n ≡ y = part_length b p (p + y) (omega arith) ∙ omega arith in
    let lt : length t ≡ z = part_length b x (x + z) q₂ ∙ omega arith in
    let le : length (n ++ list_form ps) ≡ length n + suc (length (parameter_forms ps)) = length-append n (list_form ps) in
    let hc : Lies b (p + y) (length ps ∷ []) = rw o.count (byte_lies (p + y) (omega arith)) in
    let hl : Lies b (p + y) (list_form ps) = lies_both (length ps ∷ []) (parameter_forms ps) hc o.lie refl in
    let hn : Lies b a (n ++ list_form ps) = lies_both n (list_form ps) (subst (λ (k : ℕ). Lies b k n) q₁ (part_lies p (p + y) (omega arith) (omega arith))) hl (omega arith) in
    record {
      defined = macro n ps t;
      lies = lies_both (n ++ list_form ps) t hn (part_lies x (x + z) (omega arith) q₂) (omega (arith, o.end));
      row = four v l ∙ row-of a n ps t p y x z q₁ (sym ln) (omega (arith, o.end)) (sym lt);
    }
