-- `macros::define_starts` meets its contract: each definition fits, since all do.
-- Assumes nothing.
use Rattle.macros.proofs.Starting.{Going}
use Rattle.macros.proofs.define_starts.Given as goal

abbrev pub invariant-loop-v : goal.invariant-loop-v
invariant-loop-v l = Going l.s l.ranges l.initial.bytes l.initial.records l.initial.form l.bytes l.records l.form l.v-index l.n
