-- `replace::stack_on` meets its contract. The invariant: the last `i` references are on the list.
-- Assumes nothing.
use Prim.Native.Nat.{◌+◌, ◌-◌}
use Rattle.replace.proofs.Stacking.{Onto}
use Rattle.replace.proofs.stack_on.Given as goal

abbrev pub invariant-loop-i : goal.invariant-loop-i
invariant-loop-i l = Onto l.initial.list l.list l.n l.out l.m (l.m - l.i) (l.n + l.i) l.d
