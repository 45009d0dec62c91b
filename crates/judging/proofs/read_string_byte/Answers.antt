-- `judging::read_string_byte` meets its contract.
-- Assumes nothing.
use borrow.Author.Tests.{eq-eqb, ne_eqb}
use Rattle.afresh.specs.States.{reading}
use Rattle.judging.proofs.Feeding.{read_none}
use Rattle.judging.proofs.read_string_byte.Goals as goal

pub returns-then-escaped : goal.returns-then-escaped
returns-then-escaped c = simp c.if-escaped.true c.read_escape.ensures

pub returns-then-b-eq92 : goal.returns-then-b-eq92
returns-then-b-eq92 c = simp (c.if-escaped.false, eq-eqb _ _ c.if-b-eq92.true) (read_none _ _ _ c.requires)

pub returns : goal.returns
unfolding reading
returns c = simp (c.if-escaped.false, ne_eqb _ _ c.if-b-eq92.false) c.read_byte.ensures
