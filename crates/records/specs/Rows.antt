-- Lent records, tables of them by value, and the core's rows.
-- Assumes nothing.
use Rattle.std.specs.Prelude.{ℕ, zero, suc, ◌+◌, ◌≡◌, cond, List, [], eqb, ltb, length, take, get_or, set, replicate}
use Rattle.handover.specs.Sizes.{HandOver}
use Rattle.flatten.specs.Flattening.{lent, Flattens}
use Rattle.records.specs.declared.Record.{Record}
use Rattle.records.specs.declared.Table.{Table}
use Rattle.records.specs.declared.Kept.{Kept}
use Rattle.records.specs.Records.{no_record, row_of, inserted, removed}

-- at most 256
abbrev pub few : ℕ → ℕ
few n = cond (ltb n 256) n 256

-- the record of a row
abbrev pub of_row : List ℕ → Record
of_row v = record { start = get_or v 0 0; name_length = get_or v 1 0; text_start = get_or v 2 0; text_length = get_or v 3 0 }

abbrev pub record_at : Table → ℕ → Record
record_at t i = get_or t.rows i no_record

unfoldable pub no_table : Table
no_table = record { rows = replicate 256 no_record; length = 0 }

unfoldable pub with_row : Table → ℕ → Record → Table
with_row t i r = record { rows = set t.rows i r; length = i + 1 }

-- f at each of the first i places, one after the other
unfoldable pub tabled : (ℕ → Record) → ℕ → Table
tabled f zero = no_table
tabled f (suc i) = with_row (tabled f i) i (f i)

-- the first i records of a table as rows
unfoldable pub rowed : List (List ℕ) → Table → ℕ → List (List ℕ)
rowed vs t zero = vs
rowed vs t (suc i) = set (rowed vs t i) i (row_of (record_at t i))

-- the last of the first i removed, again and again
unfoldable pub cleared : List Record → ℕ → List Record
cleared xs zero = xs
cleared xs (suc i) = cleared (removed xs (suc i) i no_record) i

-- the first i records of a table inserted, each behind those before it
unfoldable pub filled : List Record → Table → ℕ → List Record
filled xs t zero = xs
filled xs t (suc i) = inserted (filled xs t i) i i (record_at t i)

-- what is kept of a flattening over rows where n records are lent: t, m, b and t', m', b' are text, map and macro bytes as lent and
-- as left; the core's rows are those before and after
pub record Keeps (h : HandOver) (n : ℕ) (t m b t' m' b' : List ℕ) (r : Kept) : Type 0 where
  pub before : List (List ℕ)
  pub before_few : length before ≡ few n
  pub rows : List (List ℕ)
  pub rows_long : length rows ≡ 256
  pub flattens : Flattens h (lent t m before b) (lent t' m' (take (few n) rows) b') r.answer
  pub table_is : r.table ≡ tabled (λ i. of_row (get_or rows i [])) r.answer.macros
  pub clears_are : r.clears ≡ cond (eqb r.answer.number 1) 0 n
