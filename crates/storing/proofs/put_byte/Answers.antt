-- `storing::put_byte` meets its contract.
-- Assumes nothing.
use Rattle.storing.proofs.Adding.{added_space, added_one}
use Rattle.storing.proofs.put_byte.Goals as goal

pub returns-then-n-from : goal.returns-then-n-from
returns-then-n-from c = added_space _ _ _ c.requires.1 _ _ c.is_space.ensures c.if-n-from.true

pub returns : goal.returns
returns c = added_one _ _ _ _ _ c.is_space.ensures c.if-n-from.false c.if-out-n.false
