-- `directive::undef_form` meets its contract. The definition branches as the code does.
-- Assumes nothing.
use Rattle.directive.specs.Forms.{undef_form}
use Rattle.directive.proofs.undef_form.Goals as goal

pub returns-then-t : goal.returns-then-t
unfolding undef_form
returns-then-t c = simp (← c.word_at-w.ensures, c.in-Found.is, c.if-t.true)

pub returns-else-t : goal.returns-else-t
unfolding undef_form
returns-else-t c = simp (← c.word_at-w.ensures, c.in-Found.is, c.if-t.false)

pub returns-in-Missing : goal.returns-in-Missing
unfolding undef_form
returns-in-Missing c = simp (← c.word_at-w.ensures, c.in-Missing.is)

pub returns-in-Barred : goal.returns-in-Barred
unfolding undef_form
returns-in-Barred c = simp (← c.word_at-w.ensures, c.in-Barred.is)
