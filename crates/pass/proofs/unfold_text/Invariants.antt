-- `pass::unfold_text` meets its contract. The invariant: the tokens before `i` stand at the end of the list.
-- Assumes nothing.
use Prim.Native.Nat.{◌-◌}
use lib.ListN.{length}
use Rattle.pass.proofs.Unfolding.{Unfolding}
use Rattle.pass.proofs.unfold_text.Given as goal

abbrev pub invariant-loop-i : goal.invariant-loop-i
invariant-loop-i l = Unfolding l.b l.q l.initial.list l.w l.list l.i l.k l.marks

abbrev pub decreases-loop-i : goal.decreases-loop-i
decreases-loop-i l = length l.w - l.i
