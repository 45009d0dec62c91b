-- `genuine::formal_name` meets its contract.
-- Assumes nothing.
use Rattle.genuine.proofs.TestingFormals.{name_to}
use Rattle.genuine.proofs.formal_name.Goals as goal

pub returns : goal.returns
returns c = search name_to
