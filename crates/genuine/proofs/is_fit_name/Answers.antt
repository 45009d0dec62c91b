-- `genuine::is_fit_name` meets its contract.
-- Assumes nothing.
use Rattle.genuine.proofs.TestingNames.{name_long, name_torn, name_by}
use Rattle.genuine.proofs.is_fit_name.Goals as goal

pub returns-then-not-is_short : goal.returns-then-not-is_short
returns-then-not-is_short c = search name_long

pub returns-then-not-all_solid : goal.returns-then-not-all_solid
returns-then-not-all_solid c = search name_torn

pub returns : goal.returns
returns c = search name_by
