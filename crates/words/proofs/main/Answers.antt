-- `words::main` is safe: the text is as long as it says.
-- Assumes nothing.
use mathlib.Core.Path.{sym}
use Prim.Native.Nat.{ℕ}
use lib.ListN.{length-replicate}
use Rattle.words.proofs.main.Goals as goal

pub slice_bounds-read_and_run-end : goal.slice_bounds-read_and_run-end
slice_bounds-read_and_run-end c = sym (length-replicate {A = ℕ} 1048577 0)
