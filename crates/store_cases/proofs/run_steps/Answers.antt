use borrow.Author.Rules.{rules}
use Rattle.store_cases.proofs.Steps.{emptied}
use Rattle.store_cases.proofs.run_steps.Goals as goal

pub loop-i-init : goal.loop-i-init
loop-i-init c = (search rules, search rules, emptied c.zero_store.ensures)
