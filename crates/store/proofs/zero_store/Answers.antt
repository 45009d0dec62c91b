-- `store::zero_store` meets its contract: all is cleared.
-- Assumes nothing.
use Rattle.store.proofs.Emptying.{zeroed}
use Rattle.store.proofs.zero_store.Goals as goal

pub returns : goal.returns
returns c = zeroed c.args.bytes.now c.args.records.now c.clear.ensures c.clear_records.ensures
