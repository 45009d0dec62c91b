-- `storing::put_string_byte` meets its contract.
-- Assumes nothing.
use borrow.Author.Tests.{eq-eqb, ne_eqb}
use Rattle.storing.proofs.Adding.{added_none}
use Rattle.storing.proofs.put_string_byte.Goals as goal

pub returns-then-escaped : goal.returns-then-escaped
returns-then-escaped c = simp c.if-escaped.true c.put_escape.ensures

pub returns-then-b-eq92 : goal.returns-then-b-eq92
returns-then-b-eq92 c = simp (c.if-escaped.false, eq-eqb _ _ c.if-b-eq92.true) (added_none _ _ _ c.requires.1)

pub returns : goal.returns
returns c = simp (c.if-escaped.false, ne_eqb _ _ c.if-b-eq92.false) c.put_byte.ensures
