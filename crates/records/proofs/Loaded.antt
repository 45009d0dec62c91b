-- The first records as a table, and a table's records as the core's rows.
-- Assumes nothing.
use Prim.Native.Nat.{ℕ, ◌-◌, ◌≤◌}
use mathlib.Core.List.{List}
use mathlib.Core.Path.{◌≡◌, ◌∙◌, ap}
use native.Mathlib.Omega.{arith}
use lib.ListN.{length, take, get_or}
use Rattle.records.specs.declared.Record.{Record}
use Rattle.records.specs.declared.Table.{Table}
use Rattle.records.specs.Records.{no_record, rows_of}
use Rattle.records.specs.Rows.{few, tabled, rowed}
use Rattle.records.proofs.UpTo.{up_to_take}
use Rattle.records.proofs.Tables.{tabled_length, tabled_rows, tabled_front, rowed_front}
use Rattle.records.proofs.Few.{few_least, few_most}

module _ (ys : List Record) (t : Table) (e : t ≡ tabled (λ i. get_or ys i no_record) (few (length ys))) where
  abbrev at : ℕ → Record
  at i = get_or ys i no_record

  loaded_length : t.length ≡ few (length ys)
  loaded_length = ap (λ (u : Table). u.length) e ∙ tabled_length at (few (length ys))

  pub loaded_front : take t.length t.rows ≡ take (few (length ys)) ys
  loaded_front =
      ap (λ (k : ℕ). take k t.rows) loaded_length
      ∙ ap (λ (u : Table). take (few (length ys)) u.rows) e
      ∙ tabled_front at (few (length ys)) (few_most (length ys))
      ∙ up_to_take ys no_record (few (length ys)) (few_least (length ys))

  -- what look up and pass over rows ask
  pub loaded_fits : (t.length ≤ 256) × (length t.rows ≡ 256)
  loaded_fits = (rw loaded_length (few_most (length ys)), ap (λ (u : Table). length u.rows) e ∙ tabled_rows at (few (length ys)))

-- the rows ws that a table was written on
pub written_front : (vs ws : List (List ℕ)) (t : Table) → t.length ≤ length vs → t.length ≤ length t.rows
    → ws ≡ rowed vs t t.length → take (t.length - 0) ws ≡ rows_of (take t.length t.rows)
written_front vs ws t l k e =
    let z : t.length - 0 ≡ t.length = omega arith in
    ap (λ (j : ℕ). take j ws) z ∙ ap (take t.length) e ∙ rowed_front vs t t.length l k
