-- `reading::read_on` meets its contract. The invariant: turns lead from the start to where reading stands. The measure is what is left of the file.
-- Assumes nothing.
use Prim.Native.Nat.{◌-◌}
use lib.ListN.{length}
use Rattle.reading.proofs.Onward.{Onward}
use Rattle.reading.proofs.read_on.Given as goal

abbrev pub invariant-loop-e : goal.invariant-loop-e
invariant-loop-e l = Onward l.s l.file l.bytes l.records l.macros l.initial.conds l.conds l.initial.text l.text l.initial.map l.map l.initial.c l.c l.initial.y l.y l.initial.k l.k

abbrev pub decreases-loop-e : goal.decreases-loop-e
decreases-loop-e l = length l.s - l.c.at
