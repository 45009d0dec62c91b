-- `expand::run` meets its contract. The invariant: from the stand now on it ends as from the first; the measure is `weightOf`.
-- Assumes nothing.
use Rattle.expand.specs.Standing.{outer, weight_of}
use Rattle.expand.proofs.Running.{Kept, Runs}
use Rattle.expand.proofs.run.Given as goal

abbrev pub invariant-loop-y : goal.invariant-loop-y
invariant-loop-y l =
    Kept l.initial.list l.list l.initial.out l.out l.initial.ranges l.ranges l.initial.stack l.stack l.initial.work l.work l.initial.text l.text l.initial.map l.map
    × Runs l.next (outer l.file l.line l.place) l.s l.b l.records l.macros l.limit l.initial.list l.list l.initial.text l.text l.initial.map l.map l.initial.z l.z

abbrev pub decreases-loop-y : goal.decreases-loop-y
decreases-loop-y l =
    weight_of l.limit l.z
