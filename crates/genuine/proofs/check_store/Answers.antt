-- `genuine::check_store` meets its contract.
-- Assumes nothing.
use Rattle.genuine.proofs.TestingRows.{store_over, store_by}
use Rattle.genuine.proofs.check_store.Goals as goal

pub returns-then-bytes-gt65536 : goal.returns-then-bytes-gt65536
returns-then-bytes-gt65536 c = search store_over

pub returns : goal.returns
returns c = search store_by
