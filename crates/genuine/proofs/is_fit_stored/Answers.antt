-- `genuine::is_fit_stored` meets its contract.
-- Assumes nothing.
use Rattle.genuine.proofs.Roomy.{stored_ragged, stored_told, stored_short}
use Rattle.genuine.proofs.is_fit_stored.Goals as goal

pub returns-then-not-is_trimmed : goal.returns-then-not-is_trimmed
returns-then-not-is_trimmed c = search stored_ragged

pub returns-in-Some : goal.returns-in-Some
returns-in-Some c = search stored_told

pub returns-in-None : goal.returns-in-None
returns-in-None c = search stored_short
