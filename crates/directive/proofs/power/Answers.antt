-- `directive::power` meets its contract. A unit's power of ten is at most 99, so the sum fits.
-- Assumes nothing.
use native.Mathlib.Omega.{arith}
use borrow.Author.Tests.{eq-eqb, ne_eqb}
use Rattle.directive.proofs.Timing.{unit_small}
use Rattle.directive.proofs.power.Goals as goal

pub returns-then-u-eq-UNKNOWN : goal.returns-then-u-eq-UNKNOWN
returns-then-u-eq-UNKNOWN c = simp (← c.unit_of-u.ensures, eq-eqb _ _ c.if-u-eq-UNKNOWN.true)

pub overflow_add-result : goal.overflow_add-result
overflow_add-result c = omega (arith, unit_small _ _ c.unit_of-u.ensures)

pub returns : goal.returns
returns c = simp (← c.unit_of-u.ensures, ne_eqb _ _ c.if-u-eq-UNKNOWN.false)
