-- `directive::precision_form` meets its contract. The definition branches as the code does.
-- Assumes nothing.
use borrow.Author.Tests.{lt-ltb, lt-leb, le-ltb, le-leb}
use Rattle.directive.specs.Forms.{precision_form}
use Rattle.directive.proofs.precision_form.Goals as goal

pub returns-then-unit-p : goal.returns-then-unit-p
unfolding precision_form
returns-then-unit-p c = simp (← c.time_at-time.ensures, c.in-Power.is, lt-ltb _ _ c.if-unit-p.true, lt-leb _ _ c.if-unit-p.true)

pub returns-else-unit-p : goal.returns-else-unit-p
unfolding precision_form
returns-else-unit-p c = simp (← c.time_at-time.ensures, c.in-Power.is, le-ltb _ _ c.if-unit-p.false, le-leb _ _ c.if-unit-p.false)

pub returns-in-Unformed : goal.returns-in-Unformed
unfolding precision_form
returns-in-Unformed c = simp (← c.time_at-time.ensures, c.in-Unformed.is)

pub returns-in-Barred : goal.returns-in-Barred
unfolding precision_form
returns-in-Barred c = simp (← c.time_at-time.ensures, c.in-Barred.is)
