use mathlib.Core.Path.{refl, sym, ◌∙◌}
use native.Mathlib.Omega.{arith}
use Rattle.directive.specs.Include.{behind_at}
use Rattle.directive.proofs.Wording.{token_goes}
use Rattle.directive.proofs.Including.{behind_newline, behind_wrapped, behind_on, behind_out}
use Rattle.directive.proofs.line_behind.Goals as goal

pub loop-i-init : goal.loop-i-init
unfolding behind_at
loop-i-init c = refl

pub returns-then-t-eq-NEWLINE : goal.returns-then-t-eq-NEWLINE
returns-then-t-eq-NEWLINE c = c.make_line.ensures ∙ sym (behind_newline _ _ _ _ _ _ _ _ c.loop-i-test.true c.in_file.ensures c.token_at-t.ensures c.if-t-eq-NEWLINE.true) ∙ c.loop-i.invariant

pub returns-then-holds_in : goal.returns-then-holds_in
returns-then-holds_in c = c.make_line-then-holds_in.ensures ∙ sym (behind_wrapped _ _ _ _ _ _ _ _ c.loop-i-test.true c.in_file.ensures c.token_at-t.ensures c.if-t-eq-NEWLINE.false _ _ c.fault_of.ensures c.worse-bars.ensures _ c.is_gap.ensures _ c.holds_in.ensures c.if-holds_in.true) ∙ c.loop-i.invariant

pub loop-i-smaller : goal.loop-i-smaller
loop-i-smaller c = omega (arith, token_goes _ _ _ _ c.loop-i-test.true c.in_file.ensures c.token_at-t.ensures)

pub loop-i-preserved : goal.loop-i-preserved
loop-i-preserved c = sym (behind_on _ _ _ _ _ _ _ _ c.loop-i-test.true c.in_file.ensures c.token_at-t.ensures c.if-t-eq-NEWLINE.false _ _ c.fault_of.ensures c.worse-bars.ensures _ c.is_gap.ensures _ c.holds_in.ensures c.if-holds_in.false) ∙ c.loop-i.invariant

pub returns : goal.returns
returns c = c.make_line-2.ensures ∙ sym (behind_out _ _ _ _ _ _ c.loop-i-test.false) ∙ c.loop-i.invariant
