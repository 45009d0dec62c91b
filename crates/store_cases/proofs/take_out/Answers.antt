-- `store_cases::take_out` meets its contract: a removal leaves no more macros.
-- Assumes nothing.
use Rattle.store_cases.proofs.Steps.{after_removal}
use borrow.Author.Rules.{rules}
use Rattle.store_cases.proofs.take_out.Goals as goal

pub returns : goal.returns
returns c = after_removal c.plain_name.result.now c.undefine-n.ensures (search rules)
