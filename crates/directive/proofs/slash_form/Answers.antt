-- `directive::slash_form` meets its contract. The definition branches as the code does.
-- Assumes nothing.
use Rattle.directive.specs.Forms.{slash_form}
use Rattle.directive.proofs.slash_form.Goals as goal

pub returns-then-is_byte : goal.returns-then-is_byte
unfolding slash_form
returns-then-is_byte c = simp (← c.word_at-w.ensures, c.in-Found.is, ← c.is_byte.ensures, c.if-is_byte.true) c.precision_form.ensures

pub returns-else-is_byte : goal.returns-else-is_byte
unfolding slash_form
returns-else-is_byte c = simp (← c.word_at-w.ensures, c.in-Found.is, ← c.is_byte.ensures, c.if-is_byte.false)

pub returns-in-Missing : goal.returns-in-Missing
unfolding slash_form
returns-in-Missing c = simp (← c.word_at-w.ensures, c.in-Missing.is)

pub returns-in-Barred : goal.returns-in-Barred
unfolding slash_form
returns-in-Barred c = simp (← c.word_at-w.ensures, c.in-Barred.is)
