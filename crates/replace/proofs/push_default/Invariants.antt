-- `replace::push_default` meets its contract. The invariant: the tokens of the default up to `i` are added.
-- Assumes nothing.
use Prim.Native.Nat.{◌-◌}
use lib.ListN.{length}
use Rattle.replace.proofs.Values.{Copying}
use Rattle.replace.proofs.push_default.Given as goal

abbrev pub invariant-loop-i : goal.invariant-loop-i
invariant-loop-i l = Copying l.b l.from l.to l.set l.initial.out l.most l.n l.w l.out l.i l.k

abbrev pub decreases-loop-i : goal.decreases-loop-i
decreases-loop-i l = length l.w - l.i
