-- `brackets::digit_of` meets its contract. It branches as its definition does.
-- Assumes nothing.
use borrow.Author.Tests.{eq-eqb, ne_eqb}
use Rattle.brackets.proofs.digit_of.Goals as goal

pub returns-then-b-eq41 : goal.returns-then-b-eq41
returns-then-b-eq41 c = simp (eq-eqb _ _ c.if-b-eq41.true)

pub returns-then-b-eq93 : goal.returns-then-b-eq93
returns-then-b-eq93 c = simp (ne_eqb _ _ c.if-b-eq41.false, eq-eqb _ _ c.if-b-eq93.true)

pub returns-else-b-eq93 : goal.returns-else-b-eq93
returns-else-b-eq93 c = simp (ne_eqb _ _ c.if-b-eq41.false, ne_eqb _ _ c.if-b-eq93.false)
