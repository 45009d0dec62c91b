-- `flatten::not_taken` meets its contract.
-- Assumes nothing.
use Rattle.store.specs.Stores.{encode}
use Rattle.flatten.proofs.not_taken.Goals as goal

pub returns : goal.returns
unfolding encode
returns c = rw c.reset_to.ensures
