-- What `write_rows`' loop keeps true: the rows are `rowed` as far as the loop has come. Assumes nothing.
use Rattle.std.proofs.Common.{◌≡◌, ◌≤◌, ◌-◌}
use Rattle.records.specs.Rows.{rowed}
use Rattle.records.proofs.write_rows.Given as goal

abbrev pub invariant-loop-i : goal.invariant-loop-i
invariant-loop-i l = record {
  upto : l.i ≤ l.t.length;
  reached : l.rows ≡ rowed l.initial.rows l.t l.i;
}
