-- `pending::push` meets its contract.
-- Assumes nothing.
use Rattle.pending.proofs.Adding.{add_one_more}
use Rattle.pending.proofs.push.Goals as goal

pub returns : goal.returns
returns c = λ s b. add_one_more s b _ _ _ _ _ c.requires c.if-most-n.false c.numbers_of.ensures
