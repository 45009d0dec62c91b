use mathlib.Core.Path.{sym, ◌∙◌}
use native.Mathlib.Omega.{arith}
use Rattle.storing.proofs.Reading.{token_past}
use Rattle.definition.specs.Extents.{extent_at}
use Rattle.definition.proofs.Reading.{extent_newline, extent_on, extent_out}
use Rattle.definition.proofs.extent_at.Goals as goal

pub loop-i-init : goal.loop-i-init
unfolding extent_at
loop-i-init c = rw (c.no_fault-bars.ensures, c.no_fault-mark.ensures)

pub returns-then-t-eq-NEWLINE : goal.returns-then-t-eq-NEWLINE
returns-then-t-eq-NEWLINE c = sym (extent_newline _ _ _ _ _ c.loop-i-test.true c.in_definition.ensures c.token_at-t.ensures _ _ c.if-t-eq-NEWLINE.true) ∙ c.loop-i.invariant

pub loop-i-smaller : goal.loop-i-smaller
loop-i-smaller c = omega (arith, token_past _ _ _ _ c.token_at-t.ensures c.loop-i-test.true)

pub loop-i-preserved : goal.loop-i-preserved
loop-i-preserved c = sym (extent_on _ _ _ _ _ c.loop-i-test.true c.in_definition.ensures c.token_at-t.ensures _ _ c.if-t-eq-NEWLINE.false _ _ _ _ c.fault_of.ensures c.worse-bars.ensures c.mark_of-mark.ensures c.marks_after-marks.ensures) ∙ c.loop-i.invariant

pub returns : goal.returns
returns c = sym (extent_out _ _ _ _ _ c.loop-i-test.false) ∙ c.loop-i.invariant
