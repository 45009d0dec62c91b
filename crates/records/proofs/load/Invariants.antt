-- What `load`'s loop keeps true: the table has the records as far as the loop has come. Assumes nothing.
use Rattle.std.proofs.Common.{◌≡◌, ◌≤◌, ◌-◌, get_or}
use Rattle.records.specs.Records.{no_record}
use Rattle.records.specs.Rows.{tabled}
use Rattle.records.proofs.load.Given as goal

abbrev pub invariant-loop-i : goal.invariant-loop-i
invariant-loop-i l = record {
  upto : l.i ≤ l.n;
  reached : l.t ≡ tabled (λ j. get_or l.fn.records j no_record) l.i;
}
