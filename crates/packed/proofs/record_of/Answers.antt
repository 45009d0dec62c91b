-- `packed::record_of` meets its contract.
-- Assumes nothing.
use Rattle.packed.proofs.Rows.{record_by}
use borrow.Author.Rules.{rules}
use Rattle.packed.proofs.record_of.Goals as goal

pub returns : goal.returns
returns c = record_by _ _ _ _ _ (search rules) c.wide.ensures c.wide-2.ensures c.wide-3.ensures c.wide-4.ensures
