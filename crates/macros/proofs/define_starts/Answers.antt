use Rattle.macros.proofs.Starting.{going_none, going_all, going_needs, going_next, going_never}
use Rattle.macros.proofs.define_starts.Goals as goal

pub loop-v-init : goal.loop-v-init
loop-v-init c = going_none c.requires

pub define_empty-requires : goal.define_empty-requires
define_empty-requires c = going_needs c.requires c.loop-v.invariant c.loop-v-test.true c.range_of.ensures.0 c.plain_name-w.ensures

pub loop-v-preserved : goal.loop-v-preserved
loop-v-preserved c = going_next c.requires c.loop-v.invariant c.loop-v-test.true c.range_of.ensures.0 c.plain_name-w.ensures c.define_empty.ensures c.in-Some.k c.in-Some.is c.define_empty.auto.bytes c.define_empty.auto.records c.define_empty.auto.form

pub returns-in-None : goal.returns-in-None
returns-in-None c = absurd (going_never c.requires c.loop-v.invariant c.loop-v-test.true c.range_of.ensures.0 c.plain_name-w.ensures c.define_empty.ensures c.in-None.is)

pub returns : goal.returns
returns c = going_all c.requires c.loop-v.invariant c.loop-v-test.false
