-- What `rest_is_zero`'s loop keeps true: what is known of the records passed, and whether the others are zero, is the answer.
-- Assumes nothing.
use Rattle.std.proofs.Common.{◌≡◌, ◌&&◌, ◌-◌, drop}
use Rattle.records.specs.Records.{all_none}
use Rattle.records.proofs.rest_is_zero.Given as goal

abbrev pub invariant-loop-i : goal.invariant-loop-i
invariant-loop-i l = (l.zero && all_none (drop l.i l.records)) ≡ all_none (drop l.from l.records)
