-- `directive::undef_at` meets its contract. The definition branches as the code does.
-- Assumes nothing.
use Rattle.directive.specs.Forms.{undef_at}
use Rattle.directive.proofs.undef_at.Goals as goal

pub returns-in-Said : goal.returns-in-Said
unfolding undef_at
returns-in-Said c = simp (← c.read_at-w.ensures, c.in-Said.is)

pub returns-in-Unformed : goal.returns-in-Unformed
unfolding undef_at
returns-in-Unformed c = simp (← c.read_at-w.ensures, c.in-Unformed.is)

pub returns-in-Barred : goal.returns-in-Barred
unfolding undef_at
returns-in-Barred c = simp (← c.read_at-w.ensures, c.in-Barred.is)
