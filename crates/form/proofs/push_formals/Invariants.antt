-- `form::push_formals` meets its contract. The invariant: the forms that are put and those of the formals from `i` on are those of the list from `at` on.
-- Assumes nothing.
use Prim.Native.Nat.{◌-◌}
use lib.ListN.{length}
use Rattle.form.proofs.Walking.{Walking}
use Rattle.form.proofs.push_formals.Given as goal

abbrev pub invariant-loop-i : goal.invariant-loop-i
invariant-loop-i l = Walking l.s l.initial.work l.work l.initial.out l.out l.at l.i l.n l.k

abbrev pub decreases-loop-i : goal.decreases-loop-i
decreases-loop-i l = length l.s - l.i
