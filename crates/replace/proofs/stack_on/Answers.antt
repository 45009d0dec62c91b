use Rattle.replace.proofs.Stacking.{onto_none, onto_more}
use Rattle.replace.proofs.stack_on.Goals as goal

pub loop-i-init : goal.loop-i-init
loop-i-init c = onto_none c.requires.1

pub loop-i-preserved : goal.loop-i-preserved
loop-i-preserved c = onto_more c.loop-i.invariant c.requires.0 c.requires.1 c.loop-i-test.true _ _ c.size_of.ensures c.larger-d.ensures
