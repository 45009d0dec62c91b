-- `store_cases::run_steps` is safe and ends: the buffers hold macros between two steps.
-- Assumes nothing.
use Rattle.std.proofs.Common.{length, ◌-◌, ◌≡◌}
use Rattle.store_cases.specs.Kept.{Kept}
use Rattle.store_cases.proofs.run_steps.Given as goal

abbrev pub invariant-loop-i : goal.invariant-loop-i
invariant-loop-i l = (length l.bytes ≡ length l.initial.bytes) × (length l.records ≡ length l.initial.records) × Kept l.bytes l.records l.count

abbrev pub decreases-loop-i : goal.decreases-loop-i
decreases-loop-i l = length l.s - l.i
