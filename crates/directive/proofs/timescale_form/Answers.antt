-- `directive::timescale_form` meets its contract. The definition branches as the code does.
-- Assumes nothing.
use Rattle.directive.specs.Forms.{timescale_form}
use Rattle.directive.proofs.timescale_form.Goals as goal

pub returns-in-Power : goal.returns-in-Power
unfolding timescale_form
returns-in-Power c = simp (← c.time_at-time.ensures, c.in-Power.is) c.slash_form.ensures

pub returns-in-Unformed : goal.returns-in-Unformed
unfolding timescale_form
returns-in-Unformed c = simp (← c.time_at-time.ensures, c.in-Unformed.is)

pub returns-in-Barred : goal.returns-in-Barred
unfolding timescale_form
returns-in-Barred c = simp (← c.time_at-time.ensures, c.in-Barred.is)
