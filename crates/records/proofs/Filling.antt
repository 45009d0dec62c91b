-- Flatten over lent records: those cleared and filled with what a flattening over rows keeps hold the same macros.
-- Assumes nothing.
use Prim.Native.Nat.{ℕ, zero, suc, ◌+◌, ◌-◌, ◌≤◌, ◌<◌}
use mathlib.Core.Bool.{Bool, true, false, cond}
use mathlib.Core.List.{List, [], ◌∷◌, ◌++◌, map, append-nil}
use mathlib.Core.Path.{◌≡◌, refl, sym, ◌∙◌, ap, subst}
use native.Mathlib.Omega.{arith}
use lib.Dec.{eqb}
use lib.ListN.{length, take, drop, get_or, set, replicate, length-append, length-replicate, length-map}
use lib.Seq.{length-take-le, set_split, drop_at, take-take, take_at, drop-length}
use borrow.Author.Tests.{ne_eqb}
use Rattle.lex.proofs.Tests.{true_false}
use Rattle.definition.specs.Definitions.{Macro}
use Rattle.packed.specs.Records.{blank_record}
use Rattle.store.specs.Buffers.{Holds, rows_from, padded, row_of as row_at}
use Rattle.form.specs.Forms.{form_of}
use Rattle.store.proofs.Entries.{length_rows, length_padded}
use Rattle.handover.specs.Sizes.{HandOver, Rooms, is_sound}
use Rattle.turns.specs.Runs.{Outcome, not_taken, flattened}
use Rattle.turns.proofs.Refused.{one_exactly}
use Rattle.flatten.specs.Flattening.{Lent, lent, rooms_of, answer_of, Leaves, HoldsMacros, Flattens}
use Rattle.flatten.specs.declared.Flattened.{Flattened}
use Rattle.records.specs.declared.Record.{Record}
use Rattle.records.specs.declared.Table.{Table}
use Rattle.records.specs.declared.Kept.{Kept}
use Rattle.records.specs.Records.{no_record, row_of, rows_of, inserted, removed}
use Rattle.records.specs.Rows.{few, of_row, record_at, tabled, cleared, filled, Keeps}
use Rattle.records.proofs.UpTo.{up_to, up_to_set, up_to_long, up_to_map, up_to_same, up_to_take, map_join}
use Rattle.records.proofs.Tables.{tabled_length, tabled_at}
use Rattle.records.proofs.Few.{few_least, few_most, sound_few, flattened_few}

-- ---- the lists

last_removed : (xs : List Record) (i : ℕ) → i < length xs → drop i (removed xs (suc i) i no_record) ≡ no_record ∷ drop (suc i) xs
unfolding removed
last_removed xs i l =
    let z : suc i - suc i ≡ 0 = omega arith in
    rw z (drop_at (take i xs) (no_record ∷ drop (suc i) xs) i (length-take-le i xs (omega arith)))

long_removed : (xs : List Record) (i : ℕ) → i < length xs → i ≤ length (removed xs (suc i) i no_record)
unfolding removed
long_removed xs i l = rw length-append (omega (arith, length-take-le i xs (omega arith)))

more_blanks : (i : ℕ) (xs : List Record) → replicate i no_record ++ (no_record ∷ xs) ≡ no_record ∷ (replicate i no_record ++ xs)
more_blanks zero xs = refl
more_blanks (suc i) xs = ap (λ (zs : List Record). no_record ∷ zs) (more_blanks i xs)

pub cleared_are : (xs : List Record) (i : ℕ) → i ≤ length xs → cleared xs i ≡ replicate i no_record ++ drop i xs
unfolding cleared
cleared_are xs zero l = refl
cleared_are xs (suc i) l =
    cleared_are (removed xs (suc i) i no_record) i (long_removed xs i (omega arith))
    ∙ ap (λ (zs : List Record). replicate i no_record ++ zs) (last_removed xs i (omega arith))
    ∙ more_blanks i (drop (suc i) xs)

end_inserted : (xs : List Record) (i : ℕ) (r : Record) → i < length xs → inserted xs i i r ≡ set xs i r
unfolding inserted
end_inserted xs i r l = let z : i - i ≡ 0 = omega arith in rw z (sym (set_split xs i r l))

pub filled_are : (xs : List Record) (t : Table) (n : ℕ) → n ≤ length xs → filled xs t n ≡ up_to n (record_at t) ++ drop n xs
unfolding filled up_to
filled_are xs t zero l = refl
filled_are xs t (suc n) l =
    let g : n ≤ length xs = omega arith in
    ap (λ (zs : List Record). inserted zs n n (record_at t n)) (filled_are xs t n g)
    ∙ end_inserted (up_to n (record_at t) ++ drop n xs) n (record_at t n) (rw (up_to_long (record_at t) xs n g) (omega arith))
    ∙ up_to_set (record_at t) xs no_record n (omega arith)

drop_blanks : {A : Type 0} (z : A) (j k : ℕ) → drop j (replicate k z) ≡ replicate (k - j) z
drop_blanks z zero k = let e : k ≡ k - 0 = omega arith in ap (λ i. replicate i z) e
drop_blanks z (suc j) zero = let e : 0 ≡ 0 - suc j = omega arith in ap (λ i. replicate i z) e
drop_blanks z (suc j) (suc k) = let e : k - j ≡ suc k - suc j = omega arith in drop_blanks z j k ∙ ap (λ i. replicate i z) e

blank_rows : (k : ℕ) → rows_of (replicate k no_record) ≡ replicate k blank_record
blank_rows zero = refl
blank_rows (suc k) = ap (λ zs. blank_record ∷ zs) (blank_rows k)

-- the rows of macros are those of their records
same_rows : (a : ℕ) (ms : List Macro) → map (λ v. row_of (of_row v)) (rows_from a ms) ≡ rows_from a ms
unfolding rows_from
same_rows a [] = refl
same_rows a (m ∷ ms) = ap (λ (zs : List (List ℕ)). row_at a m ∷ zs) (same_rows (a + length (form_of m)) ms)

-- ---- macros that fit

-- a flattening's macros are no more than the records lent
pub macros_in : (h : HandOver) (l l' : Lent) (a : Flattened) → Flattens h l l' a → a.macros ≤ length l'.records
unfolding flattened
macros_in h l l' a f = go (is_sound h (rooms_of l)) refl
  where
    go : (c : Bool) → is_sound h (rooms_of l) ≡ c → a.macros ≤ length l'.records
    go true e =
        let k = f.macros_are e in
        let ms = (flattened h (rooms_of l)).macros in
        omega (arith, ap (λ (b : Flattened). b.macros) f.leaves.answer, ap length k.rows, length_padded blank_record (length l'.records) (rows_from 0 ms), length_rows 0 ms)
    go false e =
        let z : flattened h (rooms_of l) ≡ not_taken = rw e refl in
        omega (arith, ap (λ (b : Flattened). b.macros) f.leaves.answer, ap (λ (o : Outcome). length o.macros) z)

-- blank records filled from rows
filled_rows : (n q : ℕ) (rows R : List (List ℕ)) → q ≤ n → q ≤ 256 → q ≤ length rows → take q rows ≡ R → map (λ v. row_of (of_row v)) R ≡ R
    → rows_of (filled (replicate n no_record) (tabled (λ i. of_row (get_or rows i [])) q) q) ≡ R ++ replicate (n - q) blank_record
filled_rows n q rows R l k j e g =
    ap rows_of (filled_are (replicate n no_record) T q (rw length-replicate l) ∙ ap (λ (zs : List Record). up_to q (record_at T) ++ zs) (drop_blanks no_record q n))
    ∙ map_join row_of (up_to q (record_at T)) (replicate (n - q) no_record)
    ∙ ap (λ (zs : List (List ℕ)). rows_of (up_to q (record_at T)) ++ zs) (blank_rows (n - q))
    ∙ ap (λ (zs : List (List ℕ)). zs ++ replicate (n - q) blank_record) heads
  where
    T : Table
    T = tabled (λ i. of_row (get_or rows i [])) q

    heads : rows_of (up_to q (record_at T)) ≡ R
    heads =
        ap rows_of (up_to_same (record_at T) (λ i. of_row (get_or rows i [])) q (λ i h. tabled_at (λ i. of_row (get_or rows i [])) q i k h))
        ∙ up_to_map (λ i. of_row (get_or rows i [])) row_of q
        ∙ sym (up_to_map (λ i. get_or rows i []) (λ v. row_of (of_row v)) q)
        ∙ ap (map (λ v. row_of (of_row v))) (up_to_take rows [] q j ∙ e)
        ∙ g

-- ---- what flatten leaves

module _ (h : HandOver) (ys : List Record) (t m b t' m' b' : List ℕ) (r : Kept) (k : Keeps h (length ys) t m b t' m' b' r) where
  abbrev n : ℕ
  n = length ys

  abbrev a : Flattened
  a = r.answer

  abbrev rooms : ℕ → Rooms
  rooms j = record { text = length t; map = length m; records = j; bytes = length b }

  abbrev inner : Rooms
  inner = rooms (length k.before)

  abbrev outer : Rooms
  outer = rooms (length (rows_of ys))

  same_outcome : flattened h inner ≡ flattened h outer
  same_outcome =
      ap (λ (j : ℕ). flattened h (rooms j)) k.before_few
      ∙ flattened_few h (length t) (length m) n (length b)
      ∙ ap (λ (j : ℕ). flattened h (rooms j)) (sym (length-map ys row_of))

  same_sound : is_sound h inner ≡ is_sound h outer
  same_sound =
      ap (λ (j : ℕ). is_sound h (rooms j)) k.before_few
      ∙ sound_few h (length t) (length m) n (length b)
      ∙ ap (λ (j : ℕ). is_sound h (rooms j)) (sym (length-map ys row_of))

  few_rows : length (take (few n) k.rows) ≡ few n
  few_rows = length-take-le (few n) k.rows (rw k.rows_long (few_most n))

  macros_few : a.macros ≤ few n
  macros_few =
      omega (arith, few_rows, macros_in h (lent t m k.before b) (lent t' m' (take (few n) k.rows) b') a k.flattens)

  length_is : r.table.length ≡ a.macros
  length_is = ap (λ (u : Table). u.length) k.table_is ∙ tabled_length (λ i. of_row (get_or k.rows i [])) a.macros

  -- what `clear` and `fill` ask
  pub clears_in : r.clears ≤ n
  clears_in = rw k.clears_are (go (eqb a.number 1))
    where
      go : (c : Bool) → cond c 0 n ≤ n
      go true = omega arith
      go false = omega arith

  pub fills_in : r.table.length ≤ n
  fills_in = omega (arith, length_is, macros_few, few_least n)

  pub fills_few : r.table.length ≤ 256
  fills_few = omega (arith, length_is, macros_few, few_most n)

  abbrev left : List Record
  left = filled (cleared ys r.clears) r.table r.table.length

  not_taken_lem : is_sound h inner ≡ false → left ≡ ys
  unfolding flattened filled cleared
  not_taken_lem e =
      let z : flattened h inner ≡ not_taken = rw e refl in
      let w : a ≡ answer_of not_taken = k.flattens.leaves.answer ∙ ap answer_of z in
      let c : r.clears ≡ 0 = k.clears_are ∙ ap (λ (y : Flattened). cond (eqb y.number 1) 0 n) w in
      let l : r.table.length ≡ 0 = length_is ∙ ap (λ (y : Flattened). y.macros) w in
      rw (c, l) refl

  module _ (e : is_sound h inner ≡ true) where
    abbrev ms : List Macro
    ms = (flattened h inner).macros

    abbrev q : ℕ
    q = a.macros

    holds : Holds ms b' (take (few n) k.rows) (length ms)
    holds = k.flattens.macros_are e

    q_is : q ≡ length (rows_from 0 ms)
    q_is = ap (λ (y : Flattened). y.macros) k.flattens.leaves.answer ∙ sym (length_rows 0 ms)

    not_one : eqb a.number 1 ≡ false
    not_one =
        ne_eqb a.number 1
        (λ p. true_false (is_sound h inner) e (one_exactly h inner (sym (ap (λ (y : Flattened). y.number) k.flattens.leaves.answer) ∙ p)))

    clears_all : cleared ys r.clears ≡ replicate n no_record
    clears_all =
        ap (cleared ys) (k.clears_are ∙ ap (λ (c : Bool). cond c 0 n) not_one)
        ∙ cleared_are ys n (omega arith)
        ∙ ap (λ (zs : List Record). replicate n no_record ++ zs) (drop-length ys)
        ∙ append-nil (replicate n no_record)

    heads : take q k.rows ≡ rows_from 0 ms
    heads =
        sym (take-take q (few n) k.rows macros_few)
        ∙ ap (take q) holds.rows
        ∙ take_at (rows_from 0 ms) (replicate (length (take (few n) k.rows) - length (rows_from 0 ms)) blank_record) q (sym q_is)

    left_rows : rows_of left ≡ rows_from 0 ms ++ replicate (n - q) blank_record
    left_rows =
        ap (λ (zs : List Record). rows_of (filled zs r.table r.table.length)) clears_all
        ∙ ap (λ (j : ℕ). rows_of (filled (replicate n no_record) r.table j)) length_is
        ∙ ap (λ (u : Table). rows_of (filled (replicate n no_record) u q)) k.table_is
        ∙ filled_rows n q k.rows (rows_from 0 ms) (omega (arith, macros_few, few_least n)) (omega (arith, macros_few, few_most n)) (omega (arith, macros_few, few_most n, k.rows_long)) heads (same_rows 0 ms)

    left_long : length (rows_of left) ≡ n
    left_long = ap length left_rows ∙ rw (length-append, length-replicate) (omega (arith, q_is, macros_few, few_least n))

    left_holds : Holds ms b' (rows_of left) (length ms)
    left_holds =
        record {
          bytes = holds.bytes;
          rows =
              left_rows
              ∙ ap (λ (j : ℕ). rows_from 0 ms ++ replicate (n - j) blank_record) q_is
              ∙ ap (λ (j : ℕ). padded blank_record j (rows_from 0 ms)) (sym left_long);
          count = refl;
        }

  left_flattens : Flattens h (lent t m (rows_of ys) b) (lent t' m' (rows_of left) b') a
  left_flattens =
      record {
        leaves = subst (λ (o : Outcome). Leaves o t t' m m' a) same_outcome k.flattens.leaves;
        untouched = λ u. (ap rows_of (not_taken_lem (same_sound ∙ u)), (k.flattens.untouched (same_sound ∙ u)).1);
        macros_are = λ u. subst (λ (o : Outcome). HoldsMacros o (lent t' m' (rows_of left) b')) same_outcome (left_holds (same_sound ∙ u));
      }

  pub flattens_back : (zs : List Record) → zs ≡ left → Flattens h (lent t m (rows_of ys) b) (lent t' m' (rows_of zs) b') a
  flattens_back zs e = subst (λ (us : List Record). Flattens h (lent t m (rows_of ys) b) (lent t' m' (rows_of us) b') a) (sym e) left_flattens
