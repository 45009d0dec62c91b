-- A macro put in, replaced or taken out, on the lent bytes and records.
-- Assumes nothing.
use mathlib.Core.Path.{◌≡◌, refl, sym, ap, ◌∙◌}
use mathlib.Core.List.{List, [], ◌∷◌, ◌++◌, append_assoc}
use Prim.Native.Nat.{ℕ, suc, ◌+◌, ◌-◌, ◌≤◌, ◌<◌}
use native.Mathlib.Nat.{zero-add, mod-eq_of_lt}
use native.Mathlib.Omega.{arith}
use lib.ListN.{length, take, drop, set, replicate, length-append, length-drop, length-replicate, take-append-drop}
use lib.Seq.{split_at, length-take-le, set_at, append_snoc}
use Rattle.definition.specs.Definitions.{Macro}
use Rattle.form.specs.Forms.{form_of, text_start}
use Rattle.packed.specs.Splicing.{spliced}
use Rattle.packed.specs.Records.{cut, numbers_of, blank_record, record_of, moved_by, moved_in, moved_from}
use Rattle.packed.specs.declared.Record.{Record}
use Rattle.packed.proofs.Splices.{spliced_packed}
use Rattle.packed.proofs.Rows.{in_append, from_at}
use Rattle.store.specs.Stores.{macro_name, macro_text, no_macro, macro_at, insert_at, replace_at, remove_at, encode}
use Rattle.store.specs.Buffers.{row_of, rows_from, padded, Holds}
use Rattle.store.proofs.Entries.{form_length, name_inside, encode_append, rows_append, length_rows, bytes_fit, rows_fit}

-- ---- padded lists

module _ {A : Type 0} where
  -- what a buffer holds fits into it
  pub padded_fits : (blank : A) (l x : List A) → l ≡ padded blank (length l) x → length x ≤ length l
  padded_fits blank l x e =
      let n : length l ≡ length x + length (replicate (length l - length x) blank) = ap length e ∙ length-append x (replicate (length l - length x) blank) in
      omega (arith, n)

  pub length_padded : (blank : A) (n : ℕ) (x : List A) → length x ≤ n → length (padded blank n x) ≡ n
  length_padded blank n x h = length-append x (replicate (n - length x) blank) ∙ omega (arith, h, length-replicate (n - length x) blank)

  -- a buffer's own length in the place of an equal one
  pub padded_own : (blank : A) (l x : List A) (n : ℕ) → length x ≤ n → l ≡ padded blank n x → l ≡ padded blank (length l) x
  padded_own blank l x n h e =
      let q : n ≡ length l = sym (ap length e ∙ length_padded blank n x h) in
      e ∙ ap (λ (k : ℕ). padded blank k x) q

  -- a part f of what a buffer holds replaced by xs
  pub padded_spliced : (blank : A) (l a f c xs : List A) (i old live : ℕ) → l ≡ padded blank (length l) (a ++ (f ++ c))
      → i ≡ length a → old ≡ length f → live ≡ length (a ++ (f ++ c)) → live - old + length xs ≤ length l
      → spliced blank l i old xs live ≡ padded blank (length l) (a ++ (xs ++ c))
  padded_spliced blank l a f c xs i old live e ei eo ev h =
      let n : length (a ++ (f ++ c)) ≤ length l = padded_fits blank l (a ++ (f ++ c)) e in
      let s : length (a ++ (f ++ c)) ≡ length a + (length f + length c) = simp length-append in
      let s' : length (a ++ (xs ++ c)) ≡ length a + (length xs + length c) = simp length-append in
      let k : ℕ = length l - length (a ++ (f ++ c)) in
      let g : k + length f - length xs ≡ length l - length (a ++ (xs ++ c)) = omega arith in
      spliced_packed blank l a f c xs i old live k e ei eo ev (omega arith)
      ∙ ap (λ (j : ℕ). (a ++ (xs ++ c)) ++ replicate j blank) g

-- ---- the forms of some macros

pub encode_split : (a : List Macro) (m : Macro) (b : List Macro) → encode (a ++ m ∷ b) ≡ encode a ++ (form_of m ++ encode b)
unfolding encode
encode_split a m b = encode_append a (m ∷ b)

pub encode_long : (a b : List Macro) → length (encode (a ++ b)) ≡ length (encode a) + length (encode b)
encode_long a b = ap length (encode_append a b) ∙ length-append (encode a) (encode b)

pub encode_split_long : (a : List Macro) (m : Macro) (b : List Macro) → length (encode (a ++ m ∷ b)) ≡ length (encode a) + (length (form_of m) + length (encode b))
encode_split_long a m b = ap length (encode_split a m b) ∙ simp length-append

-- the macros before i, that at i, and those behind it
pub macros_split : (i : ℕ) (ms : List Macro) → i < length ms → ms ≡ take i ms ++ macro_at ms i ∷ drop (suc i) ms
macros_split i ms h = split_at ms i no_macro h

pub encode_at : (i : ℕ) (ms : List Macro) → encode ms ≡ encode (take i ms) ++ encode (drop i ms)
encode_at i ms = ap encode (sym (take-append-drop i ms)) ∙ encode_append (take i ms) (drop i ms)

pub encode_around : (i : ℕ) (ms : List Macro) → i < length ms → encode ms ≡ encode (take i ms) ++ (form_of (macro_at ms i) ++ encode (drop (suc i) ms))
encode_around i ms h = ap encode (macros_split i ms h) ∙ encode_split (take i ms) (macro_at ms i) (drop (suc i) ms)

pub encode_insert : (i : ℕ) (m : Macro) (ms : List Macro) → encode (insert_at i m ms) ≡ encode (take i ms) ++ (form_of m ++ encode (drop i ms))
encode_insert i m ms = encode_split (take i ms) m (drop i ms)

pub encode_replace : (i : ℕ) (m : Macro) (ms : List Macro) → encode (replace_at i m ms) ≡ encode (take i ms) ++ (form_of m ++ encode (drop (suc i) ms))
encode_replace i m ms = encode_split (take i ms) m (drop (suc i) ms)

pub encode_remove : (i : ℕ) (ms : List Macro) → encode (remove_at i ms) ≡ encode (take i ms) ++ encode (drop (suc i) ms)
encode_remove i ms = encode_append (take i ms) (drop (suc i) ms)

-- ---- the bytes

pub bytes_insert : (b : List ℕ) (ms : List Macro) (m : Macro) (i a live : ℕ) → b ≡ padded 0 (length b) (encode ms) → a ≡ length (encode (take i ms)) → live ≡ length (encode ms)
    → live + length (form_of m) ≤ length b → spliced 0 b a 0 (form_of m) live ≡ padded 0 (length b) (encode (insert_at i m ms))
bytes_insert b ms m i a live e ea ev h =
    padded_spliced 0 b (encode (take i ms)) [] (encode (drop i ms)) (form_of m) a 0 live
    (e ∙ ap (padded 0 (length b)) (encode_at i ms)) ea refl (ev ∙ ap length (encode_at i ms)) (omega arith)
    ∙ ap (padded 0 (length b)) (sym (encode_insert i m ms))

pub bytes_replace : (b : List ℕ) (ms : List Macro) (m : Macro) (i a old live : ℕ) → b ≡ padded 0 (length b) (encode ms) → i < length ms → a ≡ length (encode (take i ms))
    → old ≡ length (form_of (macro_at ms i)) → live ≡ length (encode ms) → live - old + length (form_of m) ≤ length b
    → spliced 0 b a old (form_of m) live ≡ padded 0 (length b) (encode (replace_at i m ms))
bytes_replace b ms m i a old live e l ea eo ev h =
    padded_spliced 0 b (encode (take i ms)) (form_of (macro_at ms i)) (encode (drop (suc i) ms)) (form_of m) a old live
    (e ∙ ap (padded 0 (length b)) (encode_around i ms l)) ea eo (ev ∙ ap length (encode_around i ms l)) h
    ∙ ap (padded 0 (length b)) (sym (encode_replace i m ms))

pub bytes_remove : (b : List ℕ) (ms : List Macro) (i a old live : ℕ) → b ≡ padded 0 (length b) (encode ms) → i < length ms → a ≡ length (encode (take i ms))
    → old ≡ length (form_of (macro_at ms i)) → live ≡ length (encode ms)
    → spliced 0 b a old [] live ≡ padded 0 (length b) (encode (remove_at i ms))
bytes_remove b ms i a old live e l ea eo ev =
    let n : length (encode ms) ≤ length b = padded_fits 0 b (encode ms) e in
    padded_spliced 0 b (encode (take i ms)) (form_of (macro_at ms i)) (encode (drop (suc i) ms)) [] a old live
    (e ∙ ap (padded 0 (length b)) (encode_around i ms l)) ea eo (ev ∙ ap length (encode_around i ms l)) (omega arith)
    ∙ ap (padded 0 (length b)) (sym (encode_remove i ms))

-- ---- the records of some macros

pub rows_join : (l r : List Macro) → rows_from 0 (l ++ r) ≡ rows_from 0 l ++ rows_from (length (encode l)) r
rows_join l r = rows_append 0 l r ∙ rw zero-add

pub rows_split : (l : List Macro) (m : Macro) (r : List Macro)
    → rows_from 0 (l ++ m ∷ r) ≡ rows_from 0 l ++ (row_of (length (encode l)) m ∷ rows_from (length (encode l) + length (form_of m)) r)
unfolding rows_from
rows_split l m r = rows_join l (m ∷ r)

-- a record's numbers are not cut where its form lies below 2^32
cut_same : (x y : ℕ) → x ≡ y → y < 4294967296 → cut x ≡ y
cut_same x y e h = ap cut e ∙ mod-eq_of_lt h

four_same : (x y z w x' y' z' w' : ℕ) → x ≡ x' → y ≡ y' → z ≡ z' → w ≡ w' → ◌≡◌ {A = List ℕ} (x ∷ y ∷ z ∷ w ∷ []) (x' ∷ y' ∷ z' ∷ w' ∷ [])
four_same x y z w x' y' z' w' p q r s = rw (p, q, r, s)

pub numbers_row : (a : ℕ) (m : Macro) → a + length (form_of m) < 4294967296 → numbers_of (record_of (row_of a m)) ≡ row_of a m
numbers_row a m h =
    let f : length (form_of m) ≡ text_start m + length (macro_text m) = form_length m in
    let n : length (macro_name m) ≤ text_start m = name_inside m in
    four_same _ _ _ _ _ _ _ _
    (mod-eq_of_lt (omega arith)) (mod-eq_of_lt (omega arith)) (mod-eq_of_lt (omega arith)) (mod-eq_of_lt (omega arith))

module _ (more less : ℕ) where
  row_moved : (a a' : ℕ) (m : Macro) → a + more ≡ a' + less → a' + length (form_of m) < 4294967296 → moved_by more less (row_of a m) ≡ row_of a' m
  row_moved a a' m e h =
      let f : length (form_of m) ≡ text_start m + length (macro_text m) = form_length m in
      four_same _ _ _ _ _ _ _ _
      (cut_same (a + more - less) a' (omega arith) (omega arith)) refl
      (cut_same (a + text_start m + more - less) (a' + text_start m) (omega arith) (omega arith)) refl

  -- all records of macros whose forms move
  pub rows_moved : (a a' : ℕ) (ms : List Macro) → a + more ≡ a' + less → a' + length (encode ms) < 4294967296 → moved_in more less (length ms) (rows_from a ms) ≡ rows_from a' ms
  unfolding moved_in rows_from encode
  rows_moved a a' [] e h = refl
  rows_moved a a' (m ∷ ms) e h =
      let n : length (form_of m ++ encode ms) ≡ length (form_of m) + length (encode ms) = length-append (form_of m) (encode ms) in
      let p : moved_by more less (row_of a m) ≡ row_of a' m = row_moved a a' m e (omega arith) in
      let q : moved_in more less (length ms) (rows_from (a + length (form_of m)) ms) ≡ rows_from (a' + length (form_of m)) ms =
      rows_moved (a + length (form_of m)) (a' + length (form_of m)) ms (omega arith) (omega arith) in
      ap (λ (x : List ℕ). x ∷ moved_in more less (length ms) (rows_from (a + length (form_of m)) ms)) p
      ∙ ap (λ (x : List (List ℕ)). row_of a' m ∷ x) q

  in_zero : (n : ℕ) (vs : List (List ℕ)) → n ≡ 0 → moved_in more less n vs ≡ vs
  unfolding moved_in
  in_zero n vs e = rw e

  -- the last of the records that a buffer holds
  pub padded_moved : (n : ℕ) (us : List (List ℕ)) (a a' : ℕ) (ms : List Macro) (i e : ℕ) → length us ≡ i → e ≡ i + length ms → a + more ≡ a' + less → a' + length (encode ms) < 4294967296
      → moved_from more less i e (padded blank_record n (us ++ rows_from a ms)) ≡ padded blank_record n (us ++ rows_from a' ms)
  padded_moved n us a a' ms i e hu he h k =
      let x : List (List ℕ) = rows_from a ms in
      let z : List (List ℕ) = replicate (n - length (us ++ x)) blank_record in
      let lx : length x ≡ length ms = length_rows a ms in
      let d : e - i ≡ length ms = omega arith in
      let q : length (us ++ x) ≡ length (us ++ rows_from a' ms) = simp (length-append, length_rows) in
      ap (moved_from more less i e) (append_assoc us x z)
      ∙ from_at more less us (x ++ z) i e hu
      ∙ ap (λ (j : ℕ). us ++ moved_in more less j (x ++ z)) d
      ∙ ap (λ (y : List (List ℕ)). us ++ y)
      (in_append more less (length ms) x z
      ∙ ap (λ (y : List (List ℕ)). y ++ moved_in more less (length ms - length x) z) (rows_moved a a' ms h k)
      ∙ ap (λ (y : List (List ℕ)). rows_from a' ms ++ y) (in_zero (length ms - length x) z (omega arith)))
      ∙ sym (append_assoc us (rows_from a' ms) z)
      ∙ ap (λ (j : ℕ). (us ++ rows_from a' ms) ++ replicate (n - j) blank_record) q

-- ---- the records

-- a buffer with one element of what it holds written anew
pub padded_set : {A : Type 0} (blank : A) (n : ℕ) (x : List A) (y v : A) (ys : List A) (i : ℕ) → length x ≡ i → set (padded blank n (x ++ y ∷ ys)) i v ≡ padded blank n (x ++ v ∷ ys)
padded_set {A} blank n x y v ys i h =
    let q : length (x ++ y ∷ ys) ≡ length (x ++ v ∷ ys) = simp length-append in
    let z : List A = replicate (n - length (x ++ y ∷ ys)) blank in
    ap (λ (l : List A). set l i v) (append_assoc x (y ∷ ys) z)
    ∙ set_at x y (ys ++ z) v i h
    ∙ sym (append_assoc x (v ∷ ys) z)
    ∙ ap (λ (j : ℕ). (x ++ v ∷ ys) ++ replicate (n - j) blank) q

-- the records behind a new one moved on, or back
rows_behind : (more less n : ℕ) (l : List Macro) (m : Macro) (r : List Macro) (s x i e : ℕ) → s ≡ length (encode l) → i ≡ length l → e ≡ i + 1 + length r
    → x + more ≡ s + length (form_of m) + less → length (encode (l ++ m ∷ r)) ≤ 65536
    → moved_from more less (i + 1) e (padded blank_record n (rows_from 0 l ++ (row_of s m ∷ rows_from x r))) ≡ padded blank_record n (rows_from 0 (l ++ m ∷ r))
rows_behind more less n l m r s x i e es ei ee h k =
    let d : ℕ = s + length (form_of m) in
    let us : List (List ℕ) = rows_from 0 l ++ (row_of s m ∷ []) in
    let lu : length us ≡ i + 1 = length-append (rows_from 0 l) (row_of s m ∷ []) ∙ omega (arith, length_rows 0 l) in
    let g : length (encode (l ++ m ∷ r)) ≡ length (encode l) + (length (form_of m) + length (encode r)) = encode_split_long l m r in
    ap (λ (y : List (List ℕ)). moved_from more less (i + 1) e (padded blank_record n y)) (sym (append_snoc (rows_from 0 l) (row_of s m) (rows_from x r)))
    ∙ padded_moved more less n us x d r (i + 1) e lu ee h (omega arith)
    ∙ ap (padded blank_record n)
    (append_snoc (rows_from 0 l) (row_of s m) (rows_from d r)
    ∙ ap (λ (j : ℕ). rows_from 0 l ++ (row_of j m ∷ rows_from (j + length (form_of m)) r)) es
    ∙ sym (rows_split l m r))

rows_in : (r : List (List ℕ)) (l : List Macro) (m : Macro) (t : List Macro) (q : Record) (i s d n : ℕ) → r ≡ padded blank_record (length r) (rows_from 0 (l ++ t))
    → i ≡ length l → s ≡ length (encode l) → q ≡ record_of (row_of s m) → d ≡ length (form_of m) → n ≡ length (l ++ t) → n < length r → length (encode (l ++ m ∷ t)) ≤ 65536
    → moved_from d 0 (i + 1) (n + 1) (spliced blank_record r i 0 (numbers_of q ∷ []) n) ≡ padded blank_record (length r) (rows_from 0 (l ++ m ∷ t))
rows_in r l m t q i s d n e ei es eq ed en h k =
    let z : ℕ = length (encode l) in
    let g : length (encode (l ++ m ∷ t)) ≡ length (encode l) + (length (form_of m) + length (encode t)) = encode_split_long l m t in
    let v : numbers_of q ≡ row_of s m = ap numbers_of eq ∙ numbers_row s m (omega arith) in
    let f : rows_from 0 (l ++ t) ≡ rows_from 0 l ++ rows_from s t = rows_join l t ∙ ap (λ (j : ℕ). rows_from 0 l ++ rows_from j t) (sym es) in
    let lr : length (rows_from 0 l) ≡ length l = length_rows 0 l in
    let lt : length (l ++ t) ≡ length l + length t = length-append l t in
    let p : spliced blank_record r i 0 (numbers_of q ∷ []) n ≡ padded blank_record (length r) (rows_from 0 l ++ (row_of s m ∷ rows_from s t)) =
    ap (λ (w : List ℕ). spliced blank_record r i 0 (w ∷ []) n) v
    ∙ padded_spliced blank_record r (rows_from 0 l) [] (rows_from s t) (row_of s m ∷ []) i 0 n
    (e ∙ ap (padded blank_record (length r)) f) (omega arith) refl (en ∙ sym (length_rows 0 (l ++ t)) ∙ ap length f) (omega arith) in
    ap (moved_from d 0 (i + 1) (n + 1)) p
    ∙ rows_behind d 0 (length r) l m t s s i (n + 1) es ei (omega arith) (omega arith) k

-- a macro put in
pub rows_insert : (r : List (List ℕ)) (ms : List Macro) (m : Macro) (q : Record) (i a d n : ℕ) → r ≡ padded blank_record (length r) (rows_from 0 ms)
    → i ≤ n → a ≡ length (encode (take i ms)) → q ≡ record_of (row_of a m) → d ≡ length (form_of m) → n ≡ length ms → n < length r → length (encode (insert_at i m ms)) ≤ 65536
    → moved_from d 0 (i + 1) (n + 1) (spliced blank_record r i 0 (numbers_of q ∷ []) n) ≡ padded blank_record (length r) (rows_from 0 (insert_at i m ms))
rows_insert r ms m q i a d n e l ea eq ed en h k =
    let lt : length (take i ms) ≡ i = length-take-le i ms (omega arith) in
    let t : ms ≡ take i ms ++ drop i ms = sym (take-append-drop i ms) in
    rows_in r (take i ms) m (drop i ms) q i a d n
    (e ∙ ap (λ (x : List Macro). padded blank_record (length r) (rows_from 0 x)) t) (sym lt) ea eq ed (en ∙ ap length t) h k

rows_over : (r : List (List ℕ)) (l : List Macro) (o m : Macro) (t : List Macro) (q : Record) (i s d old n : ℕ) → r ≡ padded blank_record (length r) (rows_from 0 (l ++ o ∷ t))
    → i ≡ length l → s ≡ length (encode l) → q ≡ record_of (row_of s m) → d ≡ length (form_of m) → old ≡ length (form_of o) → n ≡ length (l ++ o ∷ t) → length (encode (l ++ m ∷ t)) ≤ 65536
    → moved_from d old (i + 1) n (set r i (numbers_of q)) ≡ padded blank_record (length r) (rows_from 0 (l ++ m ∷ t))
rows_over r l o m t q i s d old n e ei es eq ed eo en k =
    let g : length (encode (l ++ m ∷ t)) ≡ length (encode l) + (length (form_of m) + length (encode t)) = encode_split_long l m t in
    let v : numbers_of q ≡ row_of s m = ap numbers_of eq ∙ numbers_row s m (omega arith) in
    let f : rows_from 0 (l ++ o ∷ t) ≡ rows_from 0 l ++ (row_of s o ∷ rows_from (s + length (form_of o)) t) =
    rows_split l o t ∙ ap (λ (j : ℕ). rows_from 0 l ++ (row_of j o ∷ rows_from (j + length (form_of o)) t)) (sym es) in
    let lr : length (rows_from 0 l) ≡ length l = length_rows 0 l in
    let lt : length (l ++ o ∷ t) ≡ length l + suc (length t) = length-append l (o ∷ t) in
    let p : set r i (numbers_of q) ≡ padded blank_record (length r) (rows_from 0 l ++ (row_of s m ∷ rows_from (s + length (form_of o)) t)) =
    ap (set r i) v
    ∙ ap (λ (x : List (List ℕ)). set x i (row_of s m)) (e ∙ ap (padded blank_record (length r)) f)
    ∙ padded_set blank_record (length r) (rows_from 0 l) (row_of s o) (row_of s m) (rows_from (s + length (form_of o)) t) i (omega arith) in
    ap (moved_from d old (i + 1) n) p
    ∙ rows_behind d old (length r) l m t s (s + length (form_of o)) i n es ei (omega arith) (omega arith) k

-- a macro in the place of one
pub rows_replace : (r : List (List ℕ)) (ms : List Macro) (m : Macro) (q : Record) (i a d old n : ℕ) → r ≡ padded blank_record (length r) (rows_from 0 ms)
    → i < n → a ≡ length (encode (take i ms)) → q ≡ record_of (row_of a m) → d ≡ length (form_of m) → old ≡ length (form_of (macro_at ms i)) → n ≡ length ms → length (encode (replace_at i m ms)) ≤ 65536
    → moved_from d old (i + 1) n (set r i (numbers_of q)) ≡ padded blank_record (length r) (rows_from 0 (replace_at i m ms))
rows_replace r ms m q i a d old n e l ea eq ed eo en k =
    let lt : length (take i ms) ≡ i = length-take-le i ms (omega arith) in
    let t : ms ≡ take i ms ++ macro_at ms i ∷ drop (suc i) ms = macros_split i ms (omega arith) in
    rows_over r (take i ms) (macro_at ms i) m (drop (suc i) ms) q i a d old n
    (e ∙ ap (λ (x : List Macro). padded blank_record (length r) (rows_from 0 x)) t) (sym lt) ea eq ed eo (en ∙ ap length t) k

rows_out : (r : List (List ℕ)) (l : List Macro) (o : Macro) (t : List Macro) (i old n : ℕ) → r ≡ padded blank_record (length r) (rows_from 0 (l ++ o ∷ t))
    → i ≡ length l → old ≡ length (form_of o) → n ≡ length (l ++ o ∷ t) → length (encode (l ++ o ∷ t)) ≤ 65536
    → moved_from 0 old i (n - 1) (spliced blank_record r i 1 [] n) ≡ padded blank_record (length r) (rows_from 0 (l ++ t))
rows_out r l o t i old n e ei eo en k =
    let s : ℕ = length (encode l) in
    let g : length (encode (l ++ o ∷ t)) ≡ length (encode l) + (length (form_of o) + length (encode t)) = encode_split_long l o t in
    let f : rows_from 0 (l ++ o ∷ t) ≡ rows_from 0 l ++ (row_of s o ∷ rows_from (s + length (form_of o)) t) = rows_split l o t in
    let lr : length (rows_from 0 l) ≡ length l = length_rows 0 l in
    let lt : length (l ++ o ∷ t) ≡ length l + suc (length t) = length-append l (o ∷ t) in
    let la : length (rows_from 0 (l ++ o ∷ t)) ≡ length (l ++ o ∷ t) = length_rows 0 (l ++ o ∷ t) in
    let w : length (rows_from 0 (l ++ o ∷ t)) ≤ length r = padded_fits blank_record r (rows_from 0 (l ++ o ∷ t)) e in
    ap (moved_from 0 old i (n - 1))
    (padded_spliced blank_record r (rows_from 0 l) (row_of s o ∷ []) (rows_from (s + length (form_of o)) t) [] i 1 n
    (e ∙ ap (padded blank_record (length r)) f) (omega arith) refl (en ∙ sym la ∙ ap length f) (omega arith))
    ∙ padded_moved 0 old (length r) (rows_from 0 l) (s + length (form_of o)) s t i (n - 1) (omega arith) (omega arith) (omega arith) (omega arith)
    ∙ ap (padded blank_record (length r)) (sym (rows_join l t))

-- a macro taken out
pub rows_remove : (r : List (List ℕ)) (ms : List Macro) (i old n : ℕ) → r ≡ padded blank_record (length r) (rows_from 0 ms)
    → i < n → old ≡ length (form_of (macro_at ms i)) → n ≡ length ms → length (encode ms) ≤ 65536
    → moved_from 0 old i (n - 1) (spliced blank_record r i 1 [] n) ≡ padded blank_record (length r) (rows_from 0 (remove_at i ms))
rows_remove r ms i old n e l eo en k =
    let lt : length (take i ms) ≡ i = length-take-le i ms (omega arith) in
    let t : ms ≡ take i ms ++ macro_at ms i ∷ drop (suc i) ms = macros_split i ms (omega arith) in
    let u : length (encode ms) ≡ length (encode (take i ms ++ macro_at ms i ∷ drop (suc i) ms)) = ap (λ (x : List Macro). length (encode x)) t in
    rows_out r (take i ms) (macro_at ms i) (drop (suc i) ms) i old n
    (e ∙ ap (λ (x : List Macro). padded blank_record (length r) (rows_from 0 x)) t) (sym lt) eo (en ∙ ap length t) (omega arith)

-- ---- how many macros and bytes there are then

module _ (i : ℕ) (ms : List Macro) where
  pub length_insert : (m : Macro) → i ≤ length ms → length (insert_at i m ms) ≡ length ms + 1
  length_insert m h = length-append (take i ms) (m ∷ drop i ms) ∙ omega (arith, length-take-le i ms h, length-drop i ms)

  pub encode_insert_long : (m : Macro) → length (encode (insert_at i m ms)) ≡ length (encode ms) + length (form_of m)
  encode_insert_long m =
      let g : length (encode ms) ≡ length (encode (take i ms)) + length (encode (drop i ms)) = ap length (encode_at i ms) ∙ length-append (encode (take i ms)) (encode (drop i ms)) in
      encode_split_long (take i ms) m (drop i ms) ∙ omega arith

  -- where the form of macro i starts
  pub start_within : length (encode (take i ms)) ≤ length (encode ms)
  start_within =
      let g : length (encode ms) ≡ length (encode (take i ms)) + length (encode (drop i ms)) = ap length (encode_at i ms) ∙ length-append (encode (take i ms)) (encode (drop i ms)) in
      omega arith

  module _ (h : i < length ms) where
    around_long : length (encode ms) ≡ length (encode (take i ms)) + (length (form_of (macro_at ms i)) + length (encode (drop (suc i) ms)))
    around_long = ap (λ (x : List Macro). length (encode x)) (macros_split i ms h) ∙ encode_split_long (take i ms) (macro_at ms i) (drop (suc i) ms)

    -- and where it ends
    pub form_within : length (encode (take i ms)) + length (form_of (macro_at ms i)) ≤ length (encode ms)
    form_within = omega (arith, around_long)

    pub length_replace : (m : Macro) → length (replace_at i m ms) ≡ length ms
    length_replace m = length-append (take i ms) (m ∷ drop (suc i) ms) ∙ omega (arith, length-take-le i ms (omega arith), length-drop (suc i) ms)

    pub length_remove : length (remove_at i ms) ≡ length ms - 1
    length_remove = length-append (take i ms) (drop (suc i) ms) ∙ omega (arith, length-take-le i ms (omega arith), length-drop (suc i) ms)

    pub encode_replace_long : (m : Macro) → length (encode (replace_at i m ms)) ≡ length (encode ms) - length (form_of (macro_at ms i)) + length (form_of m)
    encode_replace_long m = encode_split_long (take i ms) m (drop (suc i) ms) ∙ omega (arith, around_long)

    pub encode_remove_long : length (encode (remove_at i ms)) ≡ length (encode ms) - length (form_of (macro_at ms i))
    encode_remove_long = encode_long (take i ms) (drop (suc i) ms) ∙ omega (arith, around_long)

-- ---- bytes and records together

-- the record of a macro, by its numbers
pub record_row : (a : ℕ) (m : Macro) (s x y z : ℕ) → s ≡ a → x ≡ length (macro_name m) → y ≡ a + text_start m → z ≡ length (macro_text m)
    → ◌≡◌ {A = Record} (record { start = s; name = x; text = y; size = z }) (record_of (row_of a m))
record_row a m s x y z es ex ey ez = cc (es, ex, ey, ez)

-- what the buffers hold, by their lengths before
holds_by : (ms : List Macro) (b : List ℕ) (r : List (List ℕ)) (n k j : ℕ) → length (encode ms) ≤ k → length ms ≤ j
    → b ≡ padded 0 k (encode ms) → r ≡ padded blank_record j (rows_from 0 ms) → n ≡ length ms → Holds ms b r n
holds_by ms b r n k j hb hr eb er en =
    record {
      bytes = padded_own 0 b (encode ms) k hb eb;
      rows = padded_own blank_record r (rows_from 0 ms) j (omega (arith, length_rows 0 ms)) er;
      count = en;
    }

module _ {ms : List Macro} {b : List ℕ} {r : List (List ℕ)} {n : ℕ} (o : Holds ms b r n) where
  pub holds_insert : (m : Macro) (f : List ℕ) (q : Record) (i a d live : ℕ) → f ≡ form_of m → d ≡ length f → i ≤ n → a ≡ length (encode (take i ms)) → live ≡ length (encode ms)
      → q ≡ record_of (row_of a m) → n < length r → length b ≤ 65536 → live + d ≤ length b
      → (b' : List ℕ) (r₁ r' : List (List ℕ)) → b' ≡ spliced 0 b a 0 f live → r₁ ≡ spliced blank_record r i 0 (numbers_of q ∷ []) n → r' ≡ moved_from d 0 (i + 1) (n + 1) r₁
      → Holds (insert_at i m ms) b' r' (n + 1)
  holds_insert m f q i a d live ef ed l ea ev eq h k g b' r₁ r' eb er₁ er =
      let c : n ≡ length ms = o.count in
      let d' : d ≡ length (form_of m) = ed ∙ ap length ef in
      let x : length (encode (insert_at i m ms)) ≡ length (encode ms) + length (form_of m) = encode_insert_long i ms m in
      let y : length (insert_at i m ms) ≡ length ms + 1 = length_insert i ms m (omega arith) in
      holds_by (insert_at i m ms) b' r' (n + 1) (length b) (length r) (omega arith) (omega arith)
      (eb ∙ ap (λ (w : List ℕ). spliced 0 b a 0 w live) ef ∙ bytes_insert b ms m i a live o.bytes ea ev (omega arith))
      (er ∙ ap (moved_from d 0 (i + 1) (n + 1)) er₁ ∙ rows_insert r ms m q i a d n o.rows l ea eq d' c h (omega arith))
      (omega arith)

  pub holds_replace : (m : Macro) (f : List ℕ) (q : Record) (i a d old live : ℕ) → f ≡ form_of m → d ≡ length f → i < n → a ≡ length (encode (take i ms)) → old ≡ length (form_of (macro_at ms i))
      → live ≡ length (encode ms) → q ≡ record_of (row_of a m) → length b ≤ 65536 → live - old + d ≤ length b
      → (b' : List ℕ) (r₁ r' : List (List ℕ)) → b' ≡ spliced 0 b a old f live → r₁ ≡ set r i (numbers_of q) → r' ≡ moved_from d old (i + 1) n r₁
      → Holds (replace_at i m ms) b' r' n
  holds_replace m f q i a d old live ef ed l ea eo ev eq k g b' r₁ r' eb er₁ er =
      let c : n ≡ length ms = o.count in
      let u : i < length ms = omega arith in
      let s : n ≤ length r = rows_fit o in
      let d' : d ≡ length (form_of m) = ed ∙ ap length ef in
      let x : length (encode (replace_at i m ms)) ≡ length (encode ms) - length (form_of (macro_at ms i)) + length (form_of m) = encode_replace_long i ms u m in
      let y : length (replace_at i m ms) ≡ length ms = length_replace i ms u m in
      holds_by (replace_at i m ms) b' r' n (length b) (length r) (omega arith) (omega arith)
      (eb ∙ ap (λ (w : List ℕ). spliced 0 b a old w live) ef ∙ bytes_replace b ms m i a old live o.bytes u ea eo ev (omega arith))
      (er ∙ ap (moved_from d old (i + 1) n) er₁ ∙ rows_replace r ms m q i a d old n o.rows l ea eq d' eo c (omega arith))
      (omega arith)

  pub holds_remove : (i a old live : ℕ) → i < n → a ≡ length (encode (take i ms)) → old ≡ length (form_of (macro_at ms i)) → live ≡ length (encode ms) → length b ≤ 65536
      → (b' : List ℕ) (r₁ r' : List (List ℕ)) → b' ≡ spliced 0 b a old [] live → r₁ ≡ spliced blank_record r i 1 [] n → r' ≡ moved_from 0 old i (n - 1) r₁
      → Holds (remove_at i ms) b' r' (n - 1)
  holds_remove i a old live l ea eo ev k b' r₁ r' eb er₁ er =
      let c : n ≡ length ms = o.count in
      let u : i < length ms = omega arith in
      let s : n ≤ length r = rows_fit o in
      let t : length (encode ms) ≤ length b = bytes_fit o in
      let x : length (encode (remove_at i ms)) ≡ length (encode ms) - length (form_of (macro_at ms i)) = encode_remove_long i ms u in
      let y : length (remove_at i ms) ≡ length ms - 1 = length_remove i ms u in
      holds_by (remove_at i ms) b' r' (n - 1) (length b) (length r) (omega arith) (omega arith)
      (eb ∙ bytes_remove b ms i a old live o.bytes u ea eo ev)
      (er ∙ ap (moved_from 0 old i (n - 1)) er₁ ∙ rows_remove r ms i old n o.rows l eo c (omega arith))
      (omega arith)
