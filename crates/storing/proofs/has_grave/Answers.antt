use mathlib.Core.Path.{refl, sym, ◌∙◌}
use native.Mathlib.Omega.{arith}
use Rattle.storing.specs.Graves.{has_grave}
use Rattle.storing.proofs.Reading.{token_past}
use Rattle.storing.proofs.Accents.{grave_out, grave_past, grave_stop, grave_hit, grave_next}
use Rattle.storing.proofs.has_grave.Goals as goal

pub loop-i-init : goal.loop-i-init
unfolding has_grave
loop-i-init c = refl

pub returns-then-s-i : goal.returns-then-s-i
returns-then-s-i c = sym (grave_out _ _ _ _ c.if-s-i.true) ∙ c.loop-i.invariant

pub returns-then-t-eq-NEWLINE : goal.returns-then-t-eq-NEWLINE
returns-then-t-eq-NEWLINE c = sym (grave_stop _ _ _ _ _ _ c.in_definition.ensures c.token_at-t.ensures c.if-s-i.false c.if-t-eq-NEWLINE.true) ∙ c.loop-i.invariant

pub returns-then-is_free-holds_in : goal.returns-then-is_free-holds_in
returns-then-is_free-holds_in c = sym (grave_hit _ _ _ _ _ _ c.in_definition.ensures c.token_at-t.ensures c.if-s-i.false c.if-t-eq-NEWLINE.false c.loop-i-test.true _ _ c.is_free.ensures c.holds_in.ensures c.if-is_free-holds_in.true) ∙ c.loop-i.invariant

pub loop-i-smaller : goal.loop-i-smaller
loop-i-smaller c = omega (arith, c.loop-i-test.true, token_past _ _ _ _ c.token_at-t.ensures c.if-s-i.false)

pub loop-i-preserved : goal.loop-i-preserved
loop-i-preserved c = sym (grave_next _ _ _ _ _ _ c.in_definition.ensures c.token_at-t.ensures c.if-s-i.false c.if-t-eq-NEWLINE.false c.loop-i-test.true _ _ c.is_free.ensures c.holds_in.ensures c.if-is_free-holds_in.false _ c.marks_after-marks.ensures) ∙ c.loop-i.invariant

pub returns : goal.returns
returns c = sym (grave_past _ _ _ _ c.loop-i-test.false) ∙ c.loop-i.invariant
