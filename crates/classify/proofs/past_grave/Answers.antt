-- `classify::past_grave` meets its contract. The definition is the code with its calls replaced by what they ensure.
-- Assumes nothing.
use Rattle.classify.specs.Words.{past_grave}
use Rattle.classify.proofs.past_grave.Goals as goal

pub returns : goal.returns
unfolding past_grave
returns c = rw (← c.part_of.ensures, ← c.directive_of-d.ensures) c.past_directive.ensures
