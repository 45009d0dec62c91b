-- `store_cases::sum_of` is safe: the number stays small.
-- Assumes nothing.
use Rattle.std.proofs.Common.{◌<◌}
use Rattle.store_cases.proofs.sum_of.Given as goal

abbrev pub invariant-loop-b : goal.invariant-loop-b
invariant-loop-b l = l.n < 16777216
