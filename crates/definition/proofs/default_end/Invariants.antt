-- `definition::default_end` meets its contract. The invariant: the default from `i` on, with the brackets due, ends where that from `at` on does; the brackets are no more than the bytes read.
-- Assumes nothing.
use Prim.Native.Nat.{◌-◌}
use lib.ListN.{length}
use Rattle.definition.proofs.Defaults.{Due}
use Rattle.definition.proofs.default_end.Given as goal

abbrev pub invariant-loop-i : goal.invariant-loop-i
invariant-loop-i l = Due l.s l.at l.initial.stack l.stack l.i l.depth

abbrev pub decreases-loop-i : goal.decreases-loop-i
decreases-loop-i l = length l.s - l.i
