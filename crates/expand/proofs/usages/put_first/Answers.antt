-- `expand::usages::put_first` meets its contract, from what `put_in` answers with the empty set on no pending tokens.
-- Assumes nothing.
use Rattle.pending.specs.References.{stacked}
use Rattle.expand.proofs.usages.put_first.Goals as goal

pub returns : goal.returns
unfolding stacked
returns c fs t xs m g r = rw c.empty.ensures at (c.put_in.ensures fs t xs m g r)
