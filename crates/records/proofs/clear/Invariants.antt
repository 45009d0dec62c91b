-- What `clear`'s loop keeps true: clearing what is left to clear of the records clears them all. Assumes nothing.
use Rattle.std.proofs.Common.{◌≡◌, ◌≤◌, length}
use Rattle.records.specs.Rows.{cleared}
use Rattle.records.proofs.clear.Given as goal

abbrev pub invariant-loop-i : goal.invariant-loop-i
invariant-loop-i l = record {
  long : length l.records ≡ length l.initial.records;
  upto : l.i ≤ l.n;
  reached : cleared l.records l.i ≡ cleared l.initial.records l.n;
}
