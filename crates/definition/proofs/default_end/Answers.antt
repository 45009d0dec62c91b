use native.Mathlib.Omega.{arith}
use Rattle.storing.proofs.Reading.{token_past}
use Rattle.definition.proofs.Defaults.{due_first, due_out, due_newline, due_next, due_done, due_torn, due_short}
use Rattle.definition.proofs.default_end.Goals as goal

pub loop-i-init : goal.loop-i-init
loop-i-init c = due_first _ _ _

pub returns-then-t-eq-NEWLINE : goal.returns-then-t-eq-NEWLINE
returns-then-t-eq-NEWLINE c = due_newline c.loop-i.invariant _ _ c.loop-i-test.true c.in_definition.ensures c.token_at-t.ensures c.if-t-eq-NEWLINE.true

pub step_at-r-requires : goal.step_at-r-requires
step_at-r-requires c = c.loop-i.invariant.fits

pub loop-i-smaller : goal.loop-i-smaller
loop-i-smaller c = omega (arith, token_past _ _ _ _ c.token_at-t.ensures c.loop-i-test.true)

pub loop-i-preserved : goal.loop-i-preserved
loop-i-preserved c = due_next c.loop-i.invariant _ _ c.loop-i-test.true c.in_definition.ensures c.token_at-t.ensures c.if-t-eq-NEWLINE.false c.step_at-r.result c.step_at-r.new.stack c.step_at-r.ensures _ c.in-On.is c.step_at-r.auto.stack

pub returns-in-Done : goal.returns-in-Done
returns-in-Done c = due_done c.loop-i.invariant _ _ c.loop-i-test.true c.in_definition.ensures c.token_at-t.ensures c.if-t-eq-NEWLINE.false c.step_at-r.result c.step_at-r.new.stack c.step_at-r.ensures c.in-Done.is

pub returns-in-Torn : goal.returns-in-Torn
returns-in-Torn c = due_torn c.loop-i.invariant _ _ c.loop-i-test.true c.in_definition.ensures c.token_at-t.ensures c.if-t-eq-NEWLINE.false c.step_at-r.result c.step_at-r.new.stack c.step_at-r.ensures c.in-Torn.is

pub returns-in-Short : goal.returns-in-Short
returns-in-Short c = due_short c.loop-i.invariant _ _ c.loop-i-test.true c.in_definition.ensures c.token_at-t.ensures c.if-t-eq-NEWLINE.false c.step_at-r.result c.step_at-r.new.stack c.step_at-r.ensures c.in-Short.is

pub returns : goal.returns
returns c = due_out c.loop-i.invariant c.loop-i-test.false
