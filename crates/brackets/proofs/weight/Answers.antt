-- `brackets::weight` meets its contract. It branches as its definition does.
-- Assumes nothing.
use borrow.Author.Tests.{eq-eqb, ne_eqb}
use Rattle.brackets.proofs.weight.Goals as goal

pub returns-then-j-eq0 : goal.returns-then-j-eq0
returns-then-j-eq0 c = simp (eq-eqb _ _ c.if-j-eq0.true)

pub returns-then-j-eq1 : goal.returns-then-j-eq1
returns-then-j-eq1 c = simp (ne_eqb _ _ c.if-j-eq0.false, eq-eqb _ _ c.if-j-eq1.true)

pub returns-then-j-eq2 : goal.returns-then-j-eq2
returns-then-j-eq2 c = simp (ne_eqb _ _ c.if-j-eq0.false, ne_eqb _ _ c.if-j-eq1.false, eq-eqb _ _ c.if-j-eq2.true)

pub returns-else-j-eq2 : goal.returns-else-j-eq2
returns-else-j-eq2 c = simp (ne_eqb _ _ c.if-j-eq0.false, ne_eqb _ _ c.if-j-eq1.false, ne_eqb _ _ c.if-j-eq2.false)
