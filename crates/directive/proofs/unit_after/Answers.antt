-- `directive::unit_after` meets its contract. The definition branches as the code does.
-- Assumes nothing.
use borrow.Author.Tests.{ne_eqb, eq-eqb}
use Rattle.directive.specs.Forms.{unit_after}
use Rattle.directive.proofs.unit_after.Goals as goal

pub returns-then-from-t : goal.returns-then-from-t
unfolding unit_after
returns-then-from-t c = simp (ne_eqb _ _ c.if-from-t.true, ← c.part_of.ensures) c.power.ensures

pub returns-then-u-eq-NAME : goal.returns-then-u-eq-NAME
unfolding unit_after
returns-then-u-eq-NAME c = simp (eq-eqb _ _ c.if-from-t.false, ← c.word_at-w.ensures, c.in-Found.is, eq-eqb _ _ c.if-u-eq-NAME.true, ← c.part_of-then-u-eq-NAME.ensures) c.power-then-u-eq-NAME.ensures

pub returns-else-u-eq-NAME : goal.returns-else-u-eq-NAME
unfolding unit_after
returns-else-u-eq-NAME c = simp (eq-eqb _ _ c.if-from-t.false, ← c.word_at-w.ensures, c.in-Found.is, ne_eqb _ _ c.if-u-eq-NAME.false)

pub returns-in-Missing : goal.returns-in-Missing
unfolding unit_after
returns-in-Missing c = simp (eq-eqb _ _ c.if-from-t.false, ← c.word_at-w.ensures, c.in-Missing.is)

pub returns-in-Barred : goal.returns-in-Barred
unfolding unit_after
returns-in-Barred c = simp (eq-eqb _ _ c.if-from-t.false, ← c.word_at-w.ensures, c.in-Barred.is)
