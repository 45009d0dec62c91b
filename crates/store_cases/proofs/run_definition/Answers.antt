-- `store_cases::run_definition` meets its contract: what is lent is long enough, and by each answer the buffers hold so many macros.
-- Assumes nothing.
use borrow.Author.Rules.{rules}
use Rattle.store_cases.proofs.Steps.{after_definition}
use Rattle.store_cases.proofs.run_definition.Goals as goal

pub define_at-a-requires : goal.define_at-a-requires
define_at-a-requires c = record { small = search rules; few = search rules; stored = search rules; name_long = search rules; work_long = search rules; form_long = search rules }

pub returns : goal.returns
returns c = after_definition c.define_at-a.ensures (search rules) c.count_by.ensures
