-- `directive::time_at` meets its contract. A word that is found starts in the text.
-- Assumes nothing.
use mathlib.Core.Path.{sym, ◌∙◌}
use Rattle.directive.specs.Forms.{time_at}
use Rattle.directive.proofs.Wording.{found_inside}
use Rattle.directive.proofs.time_at.Goals as goal

pub magnitude_of-requires : goal.magnitude_of-requires
magnitude_of-requires c = found_inside _ _ _ (sym c.word_at-w.ensures ∙ c.in-Found.is)

pub returns-in-Found : goal.returns-in-Found
unfolding time_at
returns-in-Found c = simp (← c.word_at-w.ensures, c.in-Found.is) c.magnitude_of.ensures

pub returns-in-Missing : goal.returns-in-Missing
unfolding time_at
returns-in-Missing c = simp (← c.word_at-w.ensures, c.in-Missing.is)

pub returns-in-Barred : goal.returns-in-Barred
unfolding time_at
returns-in-Barred c = simp (← c.word_at-w.ensures, c.in-Barred.is)
