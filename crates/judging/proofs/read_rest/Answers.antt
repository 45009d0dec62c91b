-- `judging::read_rest` meets its contract.
-- Assumes nothing.
use Rattle.afresh.specs.States.{reading}
use Rattle.storing.specs.Stored.{joined_from}
use Rattle.judging.proofs.Feeding.{read_none}
use Rattle.judging.proofs.read_rest.Goals as goal

pub returns-then-escaped : goal.returns-then-escaped
unfolding joined_from reading
returns-then-escaped c = simp c.if-escaped.true c.read_byte.ensures

pub returns : goal.returns
unfolding joined_from reading
returns c = simp c.if-escaped.false (read_none _ _ _ c.requires)
