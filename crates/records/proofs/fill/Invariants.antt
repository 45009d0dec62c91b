-- What `fill`'s loop keeps true: the records are `filled` as far as the loop has come. Assumes nothing.
use Rattle.std.proofs.Common.{◌≡◌, ◌≤◌, length}
use Rattle.records.specs.Rows.{filled}
use Rattle.records.proofs.fill.Given as goal

abbrev pub invariant-loop-i : goal.invariant-loop-i
invariant-loop-i l = record {
  long : length l.records ≡ length l.initial.records;
  upto : l.i ≤ l.t.length;
  reached : l.records ≡ filled l.initial.records l.t l.i;
}
