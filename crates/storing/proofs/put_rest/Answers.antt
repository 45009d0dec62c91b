-- `storing::put_rest` meets its contract.
-- Assumes nothing.
use Rattle.storing.specs.Stored.{joined_from}
use Rattle.storing.proofs.Adding.{added_none}
use Rattle.storing.proofs.put_rest.Goals as goal

pub returns-then-escaped : goal.returns-then-escaped
unfolding joined_from
returns-then-escaped c = simp c.if-escaped.true c.put_byte.ensures

pub returns : goal.returns
unfolding joined_from
returns c = simp c.if-escaped.false (added_none _ _ _ c.requires.1)
