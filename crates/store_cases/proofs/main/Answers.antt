-- `store_cases::main` is safe and ends: the array is as long as it says.
-- Assumes nothing.
use Prim.Native.Nat.{ℕ}
use mathlib.Core.Path.{sym}
use lib.ListN.{length-replicate}
use Rattle.store_cases.proofs.main.Goals as goal

pub slice_bounds-read_and_run-end : goal.slice_bounds-read_and_run-end
slice_bounds-read_and_run-end c = sym (length-replicate {A = ℕ} 1048576 0)
