-- Tables and rows between the turns of the loops that fill them, and what they are at the end.
-- Assumes nothing.
use Prim.Native.Nat.{ℕ, zero, suc, ◌+◌, ◌≤◌, ◌<◌}
use mathlib.Core.Path.{◌≡◌, refl, sym, ◌∙◌, ap}
use mathlib.Core.List.{List, [], ◌++◌}
use native.Mathlib.Omega.{arith}
use native.Mathlib.Numerals.{add-one}
use lib.ListN.{length, take, drop, get_or, set, replicate, length-set, length-replicate}
use lib.Seq.{take_at}
use Rattle.records.specs.declared.Record.{Record}
use Rattle.records.specs.declared.Table.{Table}
use Rattle.records.specs.Records.{no_record, row_of, rows_of}
use Rattle.records.specs.Rows.{record_at, no_table, with_row, tabled, rowed}
use Rattle.records.proofs.UpTo.{up_to, up_to_length, up_to_set, up_to_get, up_to_map, up_to_take}

module _ (f : ℕ → Record) where
  pub tabled_first : no_table ≡ tabled f 0
  unfolding tabled
  tabled_first = refl

  tabled_next : (i : ℕ) → with_row (tabled f i) i (f i) ≡ tabled f (i + 1)
  unfolding tabled
  tabled_next i = rw add-one refl

  pub tabled_turn : {t u : Table} {r : Record} (i : ℕ) → t ≡ tabled f i → r ≡ f i → u ≡ with_row t i r → u ≡ tabled f (i + 1)
  tabled_turn {t} {u} {r} i e g h = h ∙ ap (λ q. with_row t i q) g ∙ ap (λ t. with_row t i (f i)) e ∙ tabled_next i

  pub tabled_length : (n : ℕ) → (tabled f n).length ≡ n
  unfolding tabled no_table with_row
  tabled_length zero = refl
  tabled_length (suc n) = add-one n

  pub tabled_rows : (n : ℕ) → length (tabled f n).rows ≡ 256
  unfolding tabled no_table with_row
  tabled_rows zero = length-replicate 256 no_record
  tabled_rows (suc n) = length-set (tabled f n).rows n (f n) ∙ tabled_rows n

  tabled_are : (n : ℕ) → n ≤ 256 → (tabled f n).rows ≡ up_to n f ++ drop n (replicate 256 no_record)
  unfolding tabled no_table with_row up_to
  tabled_are zero l = refl
  tabled_are (suc n) l =
      ap (λ rs. set rs n (f n)) (tabled_are n (omega arith))
      ∙ up_to_set f (replicate 256 no_record) no_record n (omega (arith, length-replicate 256 no_record))

  -- what it has at each place
  pub tabled_at : (n i : ℕ) → n ≤ 256 → i < n → record_at (tabled f n) i ≡ f i
  tabled_at n i l k = ap (λ rs. get_or rs i no_record) (tabled_are n l) ∙ up_to_get f n i (drop n (replicate 256 no_record)) no_record k

  pub tabled_front : (n : ℕ) → n ≤ 256 → take n (tabled f n).rows ≡ up_to n f
  tabled_front n l = ap (take n) (tabled_are n l) ∙ take_at (up_to n f) (drop n (replicate 256 no_record)) n (up_to_length f n)

module _ (vs : List (List ℕ)) (t : Table) where
  pub rowed_first : vs ≡ rowed vs t 0
  unfolding rowed
  rowed_first = refl

  rowed_next : (i : ℕ) → set (rowed vs t i) i (row_of (record_at t i)) ≡ rowed vs t (i + 1)
  unfolding rowed
  rowed_next i = rw add-one refl

  pub rowed_turn : {ws : List (List ℕ)} {r : Record} (i : ℕ) → ws ≡ rowed vs t i → r ≡ record_at t i
      → set ws i (row_of r) ≡ rowed vs t (i + 1)
  rowed_turn {ws} {r} i e g = ap (λ q. set ws i (row_of q)) g ∙ ap (λ us. set us i (row_of (record_at t i))) e ∙ rowed_next i

  pub rowed_length : (n : ℕ) → length (rowed vs t n) ≡ length vs
  unfolding rowed
  rowed_length zero = refl
  rowed_length (suc n) = length-set (rowed vs t n) n (row_of (record_at t n)) ∙ rowed_length n

  rowed_are : (n : ℕ) → n ≤ length vs → rowed vs t n ≡ up_to n (λ i. row_of (record_at t i)) ++ drop n vs
  unfolding rowed up_to
  rowed_are zero l = refl
  rowed_are (suc n) l =
      ap (λ ws. set ws n (row_of (record_at t n))) (rowed_are n (omega arith)) ∙ up_to_set (λ i. row_of (record_at t i)) vs [] n (omega arith)

  pub rowed_front : (n : ℕ) → n ≤ length vs → n ≤ length t.rows → take n (rowed vs t n) ≡ rows_of (take n t.rows)
  rowed_front n l k =
      ap (take n) (rowed_are n l)
      ∙ take_at (up_to n (λ i. row_of (record_at t i))) (drop n vs) n (up_to_length (λ i. row_of (record_at t i)) n)
      ∙ sym (up_to_map (record_at t) row_of n)
      ∙ ap rows_of (up_to_take t.rows no_record n k)
