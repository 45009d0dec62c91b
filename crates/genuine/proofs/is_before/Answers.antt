-- `genuine::is_before` meets its contract.
-- Assumes nothing.
use Rattle.genuine.proofs.TestingEntries.{order_less, order_equal, order_greater}
use Rattle.genuine.proofs.is_before.Goals as goal

pub returns-in-Less : goal.returns-in-Less
returns-in-Less c = search order_less

pub returns-in-Equal : goal.returns-in-Equal
returns-in-Equal c = search order_equal

pub returns-in-Greater : goal.returns-in-Greater
returns-in-Greater c = search order_greater
