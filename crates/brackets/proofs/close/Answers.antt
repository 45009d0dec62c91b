-- `brackets::close` meets its contract. The top of the stack is the bracket due.
-- Assumes nothing.
use mathlib.Core.Path.{refl, sym, ◌∙◌}
use native.Mathlib.Omega.{arith}
use Rattle.brackets.proofs.Stacking.{close_none, close_due, close_other}
use Rattle.brackets.proofs.close.Goals as goal

pub returns-then-depth-eq0 : goal.returns-then-depth-eq0
returns-then-depth-eq0 c = (close_none _ _ _ c.if-depth-eq0.true, refl)

pub returns-then-level-b : goal.returns-then-level-b
returns-then-level-b c = (close_due _ _ _ c.if-depth-eq0.false (sym c.level.ensures ∙ c.if-level-b.true), omega arith, omega arith)

pub returns : goal.returns
returns c = (close_other _ _ _ c.if-depth-eq0.false (λ e. c.if-level-b.false (c.level.ensures ∙ e)), refl)
