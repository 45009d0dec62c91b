-- `definition::mark_of` meets its contract. It branches as its definition does.
-- Assumes nothing.
use borrow.Author.Tests.{ne_eqb, eq-eqb}
use Rattle.definition.proofs.mark_of.Goals as goal

pub returns-then-f-ne0 : goal.returns-then-f-ne0
returns-then-f-ne0 c = simp (ne_eqb _ _ c.if-f-ne0.true)

pub returns-then-t : goal.returns-then-t
returns-then-t c = simp (eq-eqb _ _ c.if-f-ne0.false, c.if-t.true)

pub returns : goal.returns
returns c = simp (eq-eqb _ _ c.if-f-ne0.false, c.if-t.false) c.no_fault.ensures
