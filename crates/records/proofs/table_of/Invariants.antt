-- What `table_of`'s loop keeps true: the table has the rows' records as far as the loop has come. Assumes nothing.
use Rattle.std.proofs.Common.{◌≡◌, ◌≤◌, ◌-◌, [], get_or}
use Rattle.records.specs.Rows.{of_row, tabled}
use Rattle.records.proofs.table_of.Given as goal

abbrev pub invariant-loop-i : goal.invariant-loop-i
invariant-loop-i l = record {
  upto : l.i ≤ l.n;
  reached : l.t ≡ tabled (λ j. of_row (get_or l.fn.rows j [])) l.i;
}
