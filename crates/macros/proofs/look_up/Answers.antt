-- `macros::look_up` meets its contract.
-- Assumes nothing.
use Rattle.macros.proofs.Showing.{shows_left, shows_foreign}
use Rattle.macros.proofs.look_up.Goals as goal

pub returns-in-Some : goal.returns-in-Some
returns-in-Some c = shows_left c.check_store-c.ensures c.in-Some.n c.in-Some.is c.plain_name.result.now c.plain_name.ensures c.shown.ensures

pub returns-in-None : goal.returns-in-None
returns-in-None c = shows_foreign c.check_store-c.ensures c.in-None.is c.part_of.ensures
