-- `lex::worse` meets its contract.
-- Assumes nothing.
use Rattle.lex.specs.Faults.{worse_of}
use borrow.Author.Tests.{eq-eqb, ne_eqb, lt-ltb, lt-leb, le-ltb, le-leb}
use Rattle.lex.proofs.worse.Goals as goal

pub returns-then-g-eq0 : goal.returns-then-g-eq0
unfolding worse_of
returns-then-g-eq0 c = simp (eq-eqb _ _ c.if-g-eq0.true)

pub returns-then-f-eq0 : goal.returns-then-f-eq0
unfolding worse_of
returns-then-f-eq0 c = simp (ne_eqb _ _ c.if-g-eq0.false, eq-eqb _ _ c.if-f-eq0.true)

pub returns-then-g-f : goal.returns-then-g-f
unfolding worse_of
returns-then-g-f c = simp (ne_eqb _ _ c.if-g-eq0.false, ne_eqb _ _ c.if-f-eq0.false, lt-ltb _ _ c.if-g-f.true, lt-leb _ _ c.if-g-f.true)

pub returns-else-g-f : goal.returns-else-g-f
unfolding worse_of
returns-else-g-f c = simp (ne_eqb _ _ c.if-g-eq0.false, ne_eqb _ _ c.if-f-eq0.false, le-ltb _ _ c.if-g-f.false, le-leb _ _ c.if-g-f.false)
