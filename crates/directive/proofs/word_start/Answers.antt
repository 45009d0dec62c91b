use mathlib.Core.Path.{sym, ◌∙◌}
use native.Mathlib.Omega.{arith}
use borrow.Author.Tests.{not-true, not-false}
use Rattle.directive.proofs.Wording.{token_goes, start_solid, start_white, start_here, start_on, start_out}
use Rattle.std.proofs.lemmas.Bool.{not_from_true, not_from_false}
use Rattle.directive.proofs.word_start.Goals as goal

pub loop-i-preserved-then-is_white : goal.loop-i-preserved-then-is_white
loop-i-preserved-then-is_white c = sym (start_white _ _ c.loop-i-test.true (sym c.is_white.ensures ∙ c.if-is_white.true)) ∙ c.loop-i.invariant

pub returns-then-b-ne47 : goal.returns-then-b-ne47
returns-then-b-ne47 c = sym (start_solid _ _ c.loop-i-test.true (sym c.is_white.ensures ∙ c.if-is_white.false) c.if-b-ne47.true) ∙ c.loop-i.invariant

pub returns-then-not-is_between : goal.returns-then-not-is_between
returns-then-not-is_between c = sym (start_here _ _ _ _ c.loop-i-test.true c.in_file.ensures c.token_at-t.ensures (sym c.is_between.ensures ∙ not-true _ (not_from_false _ c.if-not-is_between.true))) ∙ c.loop-i.invariant

pub loop-i-smaller : goal.loop-i-smaller
loop-i-smaller c = omega (arith, token_goes _ _ _ _ c.loop-i-test.true c.in_file.ensures c.token_at-t.ensures)

pub loop-i-preserved : goal.loop-i-preserved
loop-i-preserved c = sym (start_on _ _ _ _ c.loop-i-test.true c.in_file.ensures c.token_at-t.ensures (sym c.is_between.ensures ∙ not-false _ (not_from_true _ c.if-not-is_between.false))) ∙ c.loop-i.invariant

pub returns : goal.returns
returns c = sym (start_out _ _ c.loop-i-test.false) ∙ c.loop-i.invariant
