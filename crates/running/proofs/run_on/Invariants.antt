-- `running::run_on` meets its contract.
-- Assumes nothing.
use Rattle.steps.specs.Standing.{bufs}
use Rattle.running.proofs.Advancing.{Kept, Runs, weight_of}
use Rattle.running.proofs.run_on.Given as goal

abbrev pub invariant-loop-y : goal.invariant-loop-y
invariant-loop-y l =
    Kept l.initial.bytes l.bytes l.initial.records l.records l.initial.frames l.frames l.initial.conds l.conds l.initial.name l.name l.initial.form l.form l.initial.list l.list l.initial.out l.out l.initial.ranges l.ranges l.initial.stack l.stack l.initial.work l.work l.initial.quoted l.quoted l.initial.decimal l.decimal l.initial.text l.text l.initial.map l.map
    × Runs l.files l.table l.set l.limit (bufs l.initial.text l.initial.map l.initial.bytes l.initial.records l.initial.frames l.initial.conds) (bufs l.text l.map l.bytes l.records l.frames l.conds) l.initial.z l.z

abbrev pub decreases-loop-y : goal.decreases-loop-y
decreases-loop-y l =
    weight_of l.files l.table l.frames l.z
