-- The test accepts exactly the records and bytes that some fit macros in byte order make, and gives their number.
-- Assumes nothing.
use mathlib.Core.Path.{◌≡◌, refl, sym, ap, ◌∙◌, subst}
use mathlib.Core.Bool.{Bool, true, false, cond, ◌&&◌}
use mathlib.Core.List.{List, [], ◌∷◌, ◌++◌}
use Prim.Native.Nat.{ℕ, suc, ◌+◌, ◌-◌, ◌≤◌, ◌<◌}
use native.Mathlib.Nat.{add-zero, zero-add}
use native.Mathlib.Omega.{arith}
use borrow.Author.Tests.{ltb-true, leb-true, eqb-true, lt-ltb, le-leb}
use lib.Dec.{leb, ltb}
use lib.ListN.{length, take, drop, get_or, replicate, length-append, length-replicate, take-append-drop}
use lib.Seq.{take_at, drop_at}
use Rattle.text.specs.Order.{order_of}
use Rattle.std.specs.declared.cmp.Ordering.TheVariants.{Less}
use Rattle.lex.proofs.Tests.{and_left, and_right}
use Rattle.definition.specs.Definitions.{Macro}
use Rattle.form.specs.Forms.{form_of, text_start}
use Rattle.packed.specs.Records.{blank_record, record_of}
use Rattle.store.specs.Stores.{macro_name, macro_text, Below, Ascending, encode}
use Rattle.store.specs.Buffers.{row_of, rows_from, padded}
use Rattle.store.proofs.Entries.{bytes_fit}
use Rattle.genuine.specs.Fitness.{fit_macro, all_fit}
use Rattle.genuine.specs.Layout.{is_less, name_in, end_of, entry_fits, is_four, is_blank, all_zero, all_blank, ends_there, left_from, left_in}
use Rattle.genuine.specs.Leaving.{LeftBy}
use Rattle.std.proofs.Common.{Some, None}
use Rattle.genuine.proofs.Lying.{Lies, lies_none, lies_front, lies_back, lies_both}
use Rattle.genuine.proofs.Blanks.{zeros, all-zero, blanks, all-blank, left_none, Ended, ended}
use Rattle.genuine.proofs.Rows.{less, named, below_none, not_blank, row_end, row_name, row_fits, Row, row_read}

-- ---- the macros from one on

-- behind n macros, the last of the name w, whose form ends at a, stand the macros ms and nothing more
record Behind (n : ℕ) (b : List ℕ) (a : ℕ) (w : List ℕ) (r : List (List ℕ)) (ms : List Macro) : Type 0 where
  few : n + length ms ≤ 256
  lie : Lies b a (encode ms)
  zero_on : all_zero (drop (a + length (encode ms)) b) ≡ true
  others : List (List ℕ)
  rows : r ≡ rows_from a ms ++ others
  blank : all_blank others ≡ true
  below : Below w ms
  order : Ascending ms
  fit : all_fit ms ≡ true

-- the first of them
row_taken : (n : ℕ) (b : List ℕ) (a : ℕ) (w : List ℕ) (m : Macro) (vs : List (List ℕ)) → length b ≤ 65536 → n < 256 → Lies b a (form_of m)
    → order_of w (macro_name m) ≡ Less → fit_macro m ≡ true
    → left_from n b a w (row_of a m ∷ vs) ≡ left_from (suc n) b (a + length (form_of m)) (macro_name m) vs
unfolding left_from
row_taken n b a w m vs small l h o f =
    let e : entry_fits b a w (record_of (row_of a m)) ≡ true = row_fits b a w m small h ∙ rw (o, f) in
    let z : is_blank (record_of (row_of a m)) ≡ false = not_blank a (length (macro_name m)) (a + text_start m) (length (macro_text m)) (named m f) in
    let q : ltb n 256 ≡ true = lt-ltb n 256 l in
    rw (z, q, e, row_end a m, row_name b a m h)

complete : (ms : List Macro) (n : ℕ) (b : List ℕ) (a : ℕ) (w : List ℕ) (r : List (List ℕ)) → length b ≤ 65536 → Behind n b a w r ms
    → left_from n b a w r ≡ Some (n + length ms)
unfolding encode rows_from all_fit
complete [] n b a w r small h =
    ap (left_from n b a w) h.rows
    ∙ left_none n b a w h.others h.blank (rw add-zero at h.zero_on)
    ∙ ap Some (sym (add-zero n))
complete (m ∷ ms) n b a w r small h =
    let vs : List (List ℕ) = rows_from (a + length (form_of m)) ms ++ h.others in
    let l : length (form_of m ++ encode ms) ≡ length (form_of m) + length (encode ms) = length-append (form_of m) (encode ms) in
    let e : a + length (form_of m ++ encode ms) ≡ a + length (form_of m) + length (encode ms) = omega arith in
    let g : Behind (suc n) b (a + length (form_of m)) (macro_name m) vs ms =
    record {
      few = omega (arith, h.few);
      lie = lies_back (form_of m) (encode ms) h.lie refl;
      zero_on = ap (λ (k : ℕ). all_zero (drop k b)) (sym e) ∙ h.zero_on;
      others = h.others;
      rows = refl;
      blank = h.blank;
      below = h.order.0;
      order = h.order.1;
      fit = and_right (fit_macro m) (all_fit ms) h.fit;
    } in
    ap (left_from n b a w) h.rows
    ∙ row_taken n b a w m vs small (omega (arith, h.few)) (lies_front (form_of m) (encode ms) h.lie) h.below (and_left (fit_macro m) (all_fit ms) h.fit)
    ∙ complete ms (suc n) b (a + length (form_of m)) (macro_name m) vs small g
    ∙ ap Some (omega arith)

-- some macros stand there, k with those before
record Found (n : ℕ) (b : List ℕ) (a : ℕ) (w : List ℕ) (r : List (List ℕ)) (k : ℕ) : Type 0 where
  macros : List Macro
  behind : Behind n b a w r macros
  count : k ≡ n + length macros

found_none : (n : ℕ) (b : List ℕ) (a : ℕ) (w : List ℕ) (r : List (List ℕ)) (k : ℕ) → a ≤ length b → n ≤ 256 → Ended n b a r k → Found n b a w r k
unfolding encode rows_from all_fit
found_none n b a w r k h l e = record {
  macros = [];
  behind = record {
    few = omega arith;
    lie = lies_none a h;
    zero_on = rw add-zero e.zero_on;
    others = r;
    rows = refl;
    blank = e.blank;
    below = tt;
    order = tt;
    fit = refl;
  };
  count = omega (arith, e.count);
}

found_more : (n : ℕ) (b : List ℕ) (a : ℕ) (w : List ℕ) (m : Macro) (vs : List (List ℕ)) (k : ℕ) → Lies b a (form_of m) → order_of w (macro_name m) ≡ Less → fit_macro m ≡ true
    → Found (suc n) b (a + length (form_of m)) (macro_name m) vs k → Found n b a w (row_of a m ∷ vs) k
unfolding encode rows_from all_fit
found_more n b a w m vs k h o f g =
    let ms : List Macro = g.macros in
    let q : Behind (suc n) b (a + length (form_of m)) (macro_name m) vs ms = g.behind in
    let l : length (form_of m ++ encode ms) ≡ length (form_of m) + length (encode ms) = length-append (form_of m) (encode ms) in
    let e : a + length (form_of m ++ encode ms) ≡ a + length (form_of m) + length (encode ms) = omega arith in
    record {
      macros = m ∷ ms;
      behind = record {
        few = omega (arith, q.few);
        lie = lies_both (form_of m) (encode ms) h q.lie refl;
        zero_on = ap (λ (j : ℕ). all_zero (drop j b)) e ∙ q.zero_on;
        others = q.others;
        rows = ap (λ (l : List (List ℕ)). row_of a m ∷ l) q.rows;
        blank = q.blank;
        below = o;
        order = (q.below, q.order);
        fit = rw f q.fit;
      };
      count = omega (arith, g.count);
    }

-- what a record that the test accepts tells, where it is so for the records behind it
found_row : (n : ℕ) (b : List ℕ) (a : ℕ) (w v : List ℕ) (vs : List (List ℕ)) (k : ℕ) → ((i : ℕ) → get_or b i 0 < 256) → length b ≤ 65536
    → ((j : ℕ) (u : List ℕ) → j ≤ length b → n < 256 → left_from (suc n) b j u vs ≡ Some k → Found (suc n) b j u vs k)
    → (ltb n 256 && (is_four v && entry_fits b a w (record_of v))) ≡ true → left_from (suc n) b (end_of (record_of v)) (name_in b (record_of v)) vs ≡ Some k
    → Found n b a w (v ∷ vs) k
found_row n b a w v vs k s small later t q =
    let l : n < 256 = ltb-true n 256 (search and_left) in
    let f : length v ≡ 4 = eqb-true (length v) 4 (search (and_left, and_right)) in
    let e : entry_fits b a w (record_of v) ≡ true = search and_right in
    let x : Row b a v = row_read b a w v s small f e in
    let m : Macro = x.defined in
    let j : ℕ = a + length (form_of m) in
    let z : (is_less (order_of w (macro_name m)) && fit_macro m) ≡ true =
    sym (row_fits b a w m small x.lies) ∙ ap (λ (u : List ℕ). entry_fits b a w (record_of u)) (sym x.row) ∙ e in
    let o : order_of w (macro_name m) ≡ Less = less (order_of w (macro_name m)) (and_left (is_less (order_of w (macro_name m))) (fit_macro m) z) in
    let p : end_of (record_of v) ≡ j = ap (λ (u : List ℕ). end_of (record_of u)) x.row ∙ row_end a m in
    let y : name_in b (record_of v) ≡ macro_name m = ap (λ (u : List ℕ). name_in b (record_of u)) x.row ∙ row_name b a m x.lies in
    let i : left_from (suc n) b j (macro_name m) vs ≡ Some k =
    ap (λ (c : ℕ). left_from (suc n) b c (macro_name m) vs) (sym p)
    ∙ ap (λ (u : List ℕ). left_from (suc n) b (end_of (record_of v)) u vs) (sym y)
    ∙ q in
    let g : Found (suc n) b j (macro_name m) vs k = later j (macro_name m) x.lies.fits l i in
    subst (λ (u : List ℕ). Found n b a w (u ∷ vs) k) (sym x.row)
    (found_more n b a w m vs k x.lies o (and_right (is_less (order_of w (macro_name m))) (fit_macro m) z) g)

sound : (r : List (List ℕ)) (n : ℕ) (b : List ℕ) (a : ℕ) (w : List ℕ) (k : ℕ) → ((i : ℕ) → get_or b i 0 < 256) → length b ≤ 65536 → a ≤ length b → n ≤ 256
    → left_from n b a w r ≡ Some k → Found n b a w r k
unfolding left_from
sound [] n b a w k s small h l e = found_none n b a w [] k h l (ended n b a [] k e)
sound (v ∷ vs) n b a w k s small h l e =
    go (λ j u i m q. sound vs (suc n) b j u k s small i m q) (is_four v && is_blank (record_of v)) (ltb n 256 && (is_four v && entry_fits b a w (record_of v))) refl e
  where
    go : ((j : ℕ) (u : List ℕ) → j ≤ length b → n < 256 → left_from (suc n) b j u vs ≡ Some k → Found (suc n) b j u vs k)
        → (t u : Bool) → (ltb n 256 && (is_four v && entry_fits b a w (record_of v))) ≡ u
        → cond t (ends_there n b a (v ∷ vs)) (cond u (left_from (suc n) b (end_of (record_of v)) (name_in b (record_of v)) vs) None) ≡ Some k → Found n b a w (v ∷ vs) k
    go later true u p q = found_none n b a w (v ∷ vs) k h l (ended n b a (v ∷ vs) k q)
    go later false true p q = found_row n b a w v vs k s small later p q
    go later false false p q = let z : ◌≡◌ {A = ℕ} 0 1 = cc in absurd (omega arith)

-- ---- the whole store

padded_is : {A : Type 0} (z : A) (l xs : List A) (k : ℕ) → l ≡ xs ++ replicate k z → l ≡ padded z (length l) xs
padded_is z l xs k e =
    let n : length l ≡ length xs + k = ap length e ∙ length-append xs (replicate k z) ∙ ap (λ (j : ℕ). length xs + j) (length-replicate k z) in
    let q : k ≡ length l - length xs = omega arith in
    e ∙ ap (λ (j : ℕ). xs ++ replicate j z) q

below_first : (ms : List Macro) → all_fit ms ≡ true → Below [] ms
unfolding all_fit
below_first [] h = tt
below_first (m ∷ ms) h = below_none (macro_name m) (named m (and_left (fit_macro m) (all_fit ms) h))

pub left_complete : (ms : List Macro) (b : List ℕ) (r : List (List ℕ)) → LeftBy ms b r → left_in b r ≡ Some (length ms)
unfolding left_in
left_complete ms b r h =
    let n : ℕ = length (encode ms) in
    let j : ℕ = length b - n in
    let k : ℕ = length r - length (rows_from 0 ms) in
    let q : leb (length b) 65536 ≡ true = le-leb (length b) 65536 h.small in
    let e : drop (0 + n) b ≡ replicate j 0 = ap (λ (i : ℕ). drop i b) (zero-add n) ∙ ap (drop n) h.holds.bytes ∙ drop_at (encode ms) (replicate j 0) n refl in
    let g : Behind 0 b 0 [] r ms =
    record {
      few = omega (arith, h.few);
      lie = record {
        fits = omega (arith, bytes_fit h.holds);
        bytes = ap (take n) h.holds.bytes ∙ take_at (encode ms) (replicate j 0) n refl;
      };
      zero_on = ap all_zero e ∙ zeros j;
      others = replicate k blank_record;
      rows = h.holds.rows;
      blank = blanks k;
      below = below_first ms h.fit;
      order = h.order;
      fit = h.fit;
    } in
    rw q (complete ms 0 b 0 [] r h.small g ∙ ap Some (zero-add (length ms)))

-- what the test accepts
pub record Accepted (b : List ℕ) (r : List (List ℕ)) (n : ℕ) : Type 0 where
  pub macros : List Macro
  pub left : LeftBy macros b r
  pub count : n ≡ length macros

accepted : (b : List ℕ) (r : List (List ℕ)) (k : ℕ) → length b ≤ 65536 → Found 0 b 0 [] r k → Accepted b r k
accepted b r k small f =
    let ms : List Macro = f.macros in
    let n : ℕ = length (encode ms) in
    let h : Behind 0 b 0 [] r ms = f.behind in
    let z : drop n b ≡ replicate (length (drop n b)) 0 = all-zero (drop n b) (rw zero-add at h.zero_on) in
    let e : b ≡ encode ms ++ replicate (length (drop n b)) 0 =
    sym (take-append-drop n b) ∙ ap (λ (l : List ℕ). l ++ drop n b) h.lie.bytes ∙ ap (λ (l : List ℕ). encode ms ++ l) z in
    let g : r ≡ rows_from 0 ms ++ replicate (length h.others) blank_record =
    h.rows ∙ ap (λ (l : List (List ℕ)). rows_from 0 ms ++ l) (all-blank h.others h.blank) in
    record {
      macros = ms;
      left = record {
        small = small;
        few = omega (arith, h.few);
        holds = record {
          bytes = padded_is 0 b (encode ms) (length (drop n b)) e;
          rows = padded_is blank_record r (rows_from 0 ms) (length h.others) g;
          count = refl;
        };
        order = h.order;
        fit = h.fit;
      };
      count = omega (arith, f.count);
    }

pub left_sound : (b : List ℕ) (r : List (List ℕ)) (n : ℕ) → ((i : ℕ) → get_or b i 0 < 256) → left_in b r ≡ Some n → Accepted b r n
unfolding left_in
left_sound b r n s e = go (leb (length b) 65536) refl e
  where
    go : (t : Bool) → leb (length b) 65536 ≡ t → cond t (left_from 0 b 0 [] r) None ≡ Some n → Accepted b r n
    go true p q =
        let small : length b ≤ 65536 = leb-true (length b) 65536 p in
        accepted b r n small (sound r 0 b 0 [] n s small (omega arith) (omega arith) q)
    go false p q = let z : ◌≡◌ {A = ℕ} 0 1 = cc in absurd (omega arith)
