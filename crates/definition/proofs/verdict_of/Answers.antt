-- `definition::verdict_of` meets its contract. The tests come in the definition's order.
-- Assumes nothing.
use mathlib.Core.Path.{ap, ◌∙◌}
use native.Mathlib.Omega.{arith}
use Rattle.brackets.specs.Stacks.{over}
use Rattle.brackets.proofs.Settling.{settled_as, settled_lent}
use Rattle.afresh.specs.Feeding.{verdict_of}
use Rattle.definition.proofs.Verdicts.{told, told_short, answered}
use Rattle.definition.proofs.Defining.{bad_name, bad_count, bad-formals, bad-text}
use Rattle.definition.proofs.Onward.{text_free}
use Rattle.definition.proofs.verdict_of.Goals as goal

pub returns-then-directive_of-gt0 : goal.returns-then-directive_of-gt0
returns-then-directive_of-gt0 c fs p q u = let a = c.args in answered (bad_name a.s.now a.h fs a.text a.end c.part_of.ensures c.directive_of.ensures c.if-directive_of-gt0.true)

pub returns-then-count-gt16 : goal.returns-then-count-gt16
returns-then-count-gt16 c fs p q u = let a = c.args in answered (bad_count a.s.now a.h fs a.text a.end c.part_of.ensures c.directive_of.ensures c.if-directive_of-gt0.false q c.if-count-gt16.true)

pub returns-in_err-head_verdict : goal.returns-in_err-head_verdict
returns-in_err-head_verdict c fs p q u = over c.from_residual.ensures (told_short (c.in_err-head_verdict.ensures fs c.args.text p u))

pub returns-then-branch : goal.returns-then-branch
returns-then-branch c fs p q u = let a = c.args in answered (bad-formals a.s.now a.h fs a.text a.end c.part_of.ensures c.directive_of.ensures c.if-directive_of-gt0.false q c.if-count-gt16.false (told (c.in_ok-head_verdict.ensures fs a.text p u) ∙ c.if-branch.true))

pub returns : goal.returns
returns c fs p q u = let a = c.args in settled_as (ap verdict_of (bad-text a.s.now a.h fs a.text a.end c.part_of.ensures c.directive_of.ensures c.if-directive_of-gt0.false q c.if-count-gt16.false (told (c.in_ok-head_verdict.ensures fs a.text p u) ∙ c.if-branch.false))) (settled_lent (omega arith) (c.text_verdict.ensures (text_free a.s.now a.h p u)))
