-- `packed::shift` meets its contract. The invariant: moving the records from `i` on gives what moving all of the stretch gave at the start.
-- Assumes nothing.
use mathlib.Core.Path.{◌≡◌}
use lib.ListN.{length}
use Rattle.packed.specs.Records.{moved_from}
use Rattle.packed.proofs.shift.Given as goal

abbrev pub invariant-loop-i : goal.invariant-loop-i
invariant-loop-i l = (moved_from l.more l.less l.i l.to l.records ≡ moved_from l.more l.less l.from l.to l.initial.records) × (length l.records ≡ length l.initial.records)
