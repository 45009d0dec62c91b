-- What lies in the bytes and the records of a store at each macro, and the steps of the search. Assumes nothing.
use mathlib.Core.Path.{◌≡◌, refl, sym, ap, ◌∙◌}
use mathlib.Core.List.{List, [], ◌∷◌, ◌++◌, append_assoc}
use Prim.Native.Nat.{ℕ, suc, ◌+◌, ◌-◌, ◌≤◌, ◌<◌}
use native.Mathlib.Nat.{zero-add, add-zero}
use native.Mathlib.Numerals.{add-one}
use native.Mathlib.Omega.{arith}
use lib.ListN.{length, take, drop, get_or, replicate, length-append, length-replicate, drop_of_length-le}
use lib.Seq.{split_at, drop_at, take_at, get_or_at, length-take-le, take-append-le, drop-cons, take-suc}
use Rattle.text.specs.Bytes.{part}
use Rattle.text.specs.Order.{order_of}
use Rattle.std.specs.declared.cmp.Ordering.{Ordering}
use Rattle.definition.specs.Definitions.{Macro, macro}
use Rattle.form.specs.Forms.{list_form, head_form, form_of, text_start}
use Rattle.packed.specs.Records.{blank_record, record_of, RecordIs}
use Rattle.packed.specs.declared.Record.{Record}
use Rattle.store.specs.Stores.{macro_name, macro_text, no_macro, macro_at, place_by, find, find_from, encode}
use Rattle.std.proofs.Common.{Err}
use Rattle.store.specs.Buffers.{row_of, rows_from, padded, Holds}

-- ---- the stored form

pub form_length : (m : Macro) → length (form_of m) ≡ text_start m + length (macro_text m)
unfolding form_of text_start
form_length (macro n ps t) = length-append (head_form n ps) t

-- the name is the front of the form
pub form_name : (m : Macro) → take (length (macro_name m)) (form_of m) ≡ macro_name m
unfolding form_of head_form
form_name (macro n ps t) = simp append_assoc (take_at n (list_form ps ++ t) (length n) refl)

pub name_inside : (m : Macro) → length (macro_name m) ≤ text_start m
unfolding text_start head_form
name_inside (macro n ps t) = omega (arith, length-append n (list_form ps))

-- a part from its start and its length
pub part_sized : (b : List ℕ) (s n : ℕ) → part b s (s + n) ≡ take n (drop s b)
part_sized b s n = let e : s + n - s ≡ n = omega arith in rw e

-- ---- all forms and all records

pub encode_none : length (encode []) ≡ 0
unfolding encode
encode_none = refl

pub encode_append : (a b : List Macro) → encode (a ++ b) ≡ encode a ++ encode b
unfolding encode
encode_append [] b = refl
encode_append (m ∷ a) b = rw (encode_append a b, append_assoc)

pub rows_append : (at : ℕ) (a b : List Macro) → rows_from at (a ++ b) ≡ rows_from at a ++ rows_from (at + length (encode a)) b
unfolding encode rows_from
rows_append at [] b = rw add-zero
rows_append at (m ∷ a) b =
    let e : at + length (form_of m) + length (encode a) ≡ at + length (form_of m ++ encode a) = simp length-append (omega arith) in
    ap (λ (l : List (List ℕ)). row_of at m ∷ l)
    (rows_append (at + length (form_of m)) a b ∙ ap (λ (k : ℕ). rows_from (at + length (form_of m)) a ++ rows_from k b) e)

pub length_rows : (at : ℕ) (a : List Macro) → length (rows_from at a) ≡ length a
unfolding rows_from
length_rows at [] = refl
length_rows at (m ∷ a) = ap suc (length_rows (at + length (form_of m)) a)

pub length_padded : {A : Type 0} (z : A) (n : ℕ) (l : List A) → length (padded z n l) ≡ length l + (n - length l)
length_padded z n l = simp (length-append, length-replicate)

module _ {ms : List Macro} {b : List ℕ} {r : List (List ℕ)} {n : ℕ} (h : Holds ms b r n) where
  pub bytes_fit : length (encode ms) ≤ length b
  bytes_fit = omega (arith, ap length h.bytes, length_padded 0 (length b) (encode ms))

  pub rows_fit : n ≤ length r
  rows_fit = omega (arith, ap length h.rows, length_padded blank_record (length r) (rows_from 0 ms), length_rows 0 ms, h.count)

-- ---- one macro

-- where the form of macro i starts, and where the last one ends
abbrev pub start : List Macro → ℕ → ℕ
start ms i = length (encode (take i ms))

-- what b and r hold of the macro m at i, whose form starts at s
pub record Entry (b : List ℕ) (r : List (List ℕ)) (i s : ℕ) (m : Macro) : Type 0 where
  pub room : i < length r
  pub row : get_or r i blank_record ≡ row_of s m
  pub within : s + length (form_of m) ≤ length b
  pub form_is : part b s (s + length (form_of m)) ≡ form_of m
  pub name_is : part b s (s + length (macro_name m)) ≡ macro_name m

rows_at : (pre : List Macro) (m : Macro) (post : List Macro) (z : List (List ℕ)) (i : ℕ) → length pre ≡ i
    → get_or (rows_from 0 (pre ++ m ∷ post) ++ z) i blank_record ≡ row_of (length (encode pre)) m
unfolding rows_from
rows_at pre m post z i e =
    let s : ℕ = length (encode pre) in
    ap (λ (l : List (List ℕ)). get_or (l ++ z) i blank_record) (rows_append 0 pre (m ∷ post))
    ∙ ap (λ (l : List (List ℕ)). get_or l i blank_record) (append_assoc (rows_from 0 pre) (rows_from (0 + s) (m ∷ post)) z)
    ∙ get_or_at (rows_from 0 pre) (row_of (0 + s) m) (rows_from (0 + s + length (form_of m)) post ++ z) blank_record i (length_rows 0 pre ∙ e)
    ∙ rw zero-add

bytes_at : (pre : List Macro) (m : Macro) (post : List Macro) (z : List ℕ)
    → drop (length (encode pre)) (encode (pre ++ m ∷ post) ++ z) ≡ form_of m ++ (encode post ++ z)
unfolding encode
bytes_at pre m post z =
    ap (λ (l : List ℕ). drop (length (encode pre)) (l ++ z)) (encode_append pre (m ∷ post))
    ∙ ap (drop (length (encode pre))) (append_assoc (encode pre) (form_of m ++ encode post) z)
    ∙ drop_at (encode pre) (form_of m ++ encode post ++ z) (length (encode pre)) refl
    ∙ append_assoc (form_of m) (encode post) z

entry_of : (pre : List Macro) (m : Macro) (post : List Macro) (b : List ℕ) (r : List (List ℕ)) (n i : ℕ) → Holds (pre ++ m ∷ post) b r n → length pre ≡ i
    → Entry b r i (length (encode pre)) m
unfolding encode
entry_of pre m post b r n i h e =
    let s : ℕ = length (encode pre) in
    let o : List (List ℕ) = replicate (length r - length (rows_from 0 (pre ++ m ∷ post))) blank_record in
    let p : List ℕ = replicate (length b - length (encode (pre ++ m ∷ post))) 0 in
    let d : drop s b ≡ form_of m ++ (encode post ++ p) = ap (drop s) h.bytes ∙ bytes_at pre m post p in
    let fit : length (encode pre ++ encode (m ∷ post)) ≤ length b = rw encode_append at (bytes_fit h) in
    record {
      room = omega (arith, rows_fit h, h.count, length-append pre (m ∷ post));
      row = ap (λ (l : List (List ℕ)). get_or l i blank_record) h.rows ∙ rows_at pre m post o i e;
      within = omega (arith, fit, length-append (encode pre) (encode (m ∷ post)), length-append (form_of m) (encode post));
      form_is =
          part_sized b s (length (form_of m))
          ∙ ap (take (length (form_of m))) d
          ∙ take_at (form_of m) (encode post ++ p) (length (form_of m)) refl;
      name_is =
          part_sized b s (length (macro_name m))
          ∙ ap (take (length (macro_name m))) d
          ∙ take-append-le (length (macro_name m)) (form_of m) (encode post ++ p) (omega (arith, name_inside m, form_length m))
          ∙ form_name m;
    }

pub entry : {ms : List Macro} {b : List ℕ} {r : List (List ℕ)} {n : ℕ} → Holds ms b r n → (i : ℕ) → i < n → Entry b r i (start ms i) (macro_at ms i)
entry {ms} {b} {r} {n} h i l =
    let k : i < length ms = omega (arith, h.count) in
    entry_of (take i ms) (macro_at ms i) (drop (suc i) ms) b r n i (rw (← split_at ms i no_macro k) h) (length-take-le i ms (omega arith))

-- ---- what the code reads of a macro

-- the numbers of its record
pub record Told (s : ℕ) (m : Macro) (q : Record) : Type 0 where
  pub start_is : q.start ≡ s
  pub name_is : q.name ≡ length (macro_name m)
  pub text_is : q.text ≡ s + text_start m
  pub size_is : q.size ≡ length (macro_text m)

module _ {b : List ℕ} {r : List (List ℕ)} {i s : ℕ} {m : Macro} {q : Record} (e : Entry b r i s m) (k : RecordIs (get_or r i blank_record) q) where
  pub told : Told s m q
  told =
      let v : q ≡ record_of (row_of s m) = k.value ∙ ap record_of e.row in
      record {
        start_is = ap (λ (x : Record). x.start) v;
        name_is = ap (λ (x : Record). x.name) v;
        text_is = ap (λ (x : Record). x.text) v;
        size_is = ap (λ (x : Record). x.size) v;
      }

  pub part_name : part b q.start (q.start + q.name) ≡ macro_name m
  part_name =
      let t : Told s m q = told in
      let n : q.start + q.name ≡ s + length (macro_name m) = omega arith in
      ap (part b q.start) n ∙ ap (λ (x : ℕ). part b x (s + length (macro_name m))) t.start_is ∙ e.name_is

  pub part_form : part b q.start (q.text + q.size) ≡ form_of m
  part_form =
      let t : Told s m q = told in
      let n : q.text + q.size ≡ s + length (form_of m) = omega (arith, form_length m) in
      ap (part b q.start) n ∙ ap (λ (x : ℕ). part b x (s + length (form_of m))) t.start_is ∙ e.form_is

-- the end of a form is the start of the next
pub start_next : (ms : List Macro) (i : ℕ) → i < length ms → start ms (suc i) ≡ start ms i + length (form_of (macro_at ms i))
unfolding encode
start_next ms i h =
    ap (λ (x : List Macro). length (encode x)) (take-suc ms i no_macro h)
    ∙ ap length (encode_append (take i ms) (macro_at ms i ∷ []))
    ∙ simp (length-append, add-zero)

pub end_is : {ms : List Macro} {b : List ℕ} {r : List (List ℕ)} {n : ℕ} {q : Record} → Holds ms b r n → (i : ℕ) → (i ≡ 0 → ⊥) → i ≤ n → RecordIs (get_or r (i - 1) blank_record) q
    → q.text + q.size ≡ start ms i
end_is {ms} {b} {r} {n} {q} h i p l k =
    let j : ℕ = i - 1 in
    let e : suc j ≡ i = omega (arith, p) in
    let t : Told (start ms j) (macro_at ms j) q = told (entry h j (omega (arith, p))) k in
    let g : start ms (suc j) ≡ start ms j + length (form_of (macro_at ms j)) = start_next ms j (omega (arith, h.count, p)) in
    let f : q.text + q.size ≡ start ms (suc j) = omega (arith, form_length (macro_at ms j)) in
    f ∙ ap (start ms) e

-- ---- the search

-- macro i decides, by the order o of the name to its own, or the rest does
pub found_step : (w : List ℕ) (ms : List Macro) (i : ℕ) (o : Ordering) → i < length ms → o ≡ order_of w (macro_name (macro_at ms i))
    → find_from i w (drop i ms) ≡ place_by o i (find_from (i + 1) w (drop (i + 1) ms))
unfolding find_from
found_step w ms i o h e = rw (drop-cons ms i no_macro, add-one, e)

pub found_end : (w : List ℕ) (ms : List Macro) (i : ℕ) → length ms ≤ i → find_from i w (drop i ms) ≡ Err i
unfolding find_from
found_end w ms i h = rw (drop_of_length-le ms)

-- a turn of the search, where the name's order to that of macro i is o
module _ (w : List ℕ) {b : List ℕ} {r : List (List ℕ)} {n i : ℕ} {p : Ordering} (l : i < n)
    (inv : (ms : List Macro) → Holds ms b r n → find_from i w (drop i ms) ≡ find w ms)
    (e : (ms : List Macro) → Holds ms b r n → p ≡ order_of w (macro_name (macro_at ms i))) where
  pub turn : (o : Ordering) → p ≡ o → (ms : List Macro) → Holds ms b r n → place_by o i (find_from (i + 1) w (drop (i + 1) ms)) ≡ find w ms
  turn o f ms h = sym (found_step w ms i o (omega (arith, h.count)) (sym f ∙ e ms h)) ∙ inv ms h
