use mathlib.Core.Path.{refl, sym, ◌∙◌}
use native.Mathlib.Omega.{arith}
use Rattle.directive.specs.Include.{include_at}
use Rattle.directive.proofs.Wording.{token_goes, token_lies}
use Rattle.directive.proofs.Including.{include_newline, include_wrapped, include_named, include_on, include_out}
use Rattle.std.proofs.lemmas.Bool.{not_from_true, not_from_false}
use Rattle.directive.proofs.include_at.Goals as goal

pub loop-i-init : goal.loop-i-init
unfolding include_at
loop-i-init c = refl

pub returns-then-t-eq-NEWLINE : goal.returns-then-t-eq-NEWLINE
returns-then-t-eq-NEWLINE c = c.make_line.ensures ∙ sym (include_newline _ _ _ _ _ _ c.loop-i-test.true c.in_file.ensures c.token_at-t.ensures c.if-t-eq-NEWLINE.true) ∙ c.loop-i.invariant

pub returns-then-holds_in : goal.returns-then-holds_in
returns-then-holds_in c = c.make_line-then-holds_in.ensures ∙ sym (include_wrapped _ _ _ _ _ _ c.loop-i-test.true c.in_file.ensures c.token_at-t.ensures c.if-t-eq-NEWLINE.false _ _ c.fault_of.ensures c.worse-next.ensures _ c.holds_in.ensures c.if-holds_in.true) ∙ c.loop-i.invariant

pub line_of-requires : goal.line_of-requires
line_of-requires c = token_lies _ _ _ _ c.loop-i-test.true c.in_file.ensures c.token_at-t.ensures

pub returns-then-not-is_gap : goal.returns-then-not-is_gap
returns-then-not-is_gap c = c.line_of.ensures ∙ sym (include_named _ _ _ _ _ _ c.loop-i-test.true c.in_file.ensures c.token_at-t.ensures c.if-t-eq-NEWLINE.false _ _ c.fault_of.ensures c.worse-next.ensures _ c.holds_in.ensures c.if-holds_in.false _ c.is_gap.ensures (not_from_false _ c.if-not-is_gap.true)) ∙ c.loop-i.invariant

pub loop-i-smaller : goal.loop-i-smaller
loop-i-smaller c = omega (arith, token_goes _ _ _ _ c.loop-i-test.true c.in_file.ensures c.token_at-t.ensures)

pub loop-i-preserved : goal.loop-i-preserved
loop-i-preserved c = sym (include_on _ _ _ _ _ _ c.loop-i-test.true c.in_file.ensures c.token_at-t.ensures c.if-t-eq-NEWLINE.false _ _ c.fault_of.ensures c.worse-next.ensures _ c.holds_in.ensures c.if-holds_in.false _ c.is_gap.ensures (not_from_true _ c.if-not-is_gap.false)) ∙ c.loop-i.invariant

pub returns : goal.returns
returns c = c.make_line-2.ensures ∙ sym (include_out _ _ _ _ c.loop-i-test.false) ∙ c.loop-i.invariant
