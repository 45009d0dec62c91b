-- `genuine::formal_end` meets its contract.
-- Assumes nothing.
use Rattle.genuine.proofs.TestingFormals.{end_at}
use Rattle.genuine.proofs.formal_end.Goals as goal

pub returns : goal.returns
returns c = end_at c.args.b.now c.args.i c.mark_at-m.ensures c.two_at.ensures
