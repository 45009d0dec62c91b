use mathlib.Core.Bool.{true}
use mathlib.Core.Path.{refl, ◌∙◌}
use native.Mathlib.Omega.{arith}
use Rattle.brackets.specs.Stacks.{over}
use Rattle.definition.proofs.Verdicts.{told, told_short, answered}
use Rattle.definition.proofs.Onward.{read_free}
use Rattle.definition.proofs.Scanning.{scan_said, scan_over, scan_last, scan_less, scan_next, scan_short, scan_out, bad_none, bad_here, bad_past}
use Rattle.definition.proofs.formals_verdict.Goals as goal

pub returns-in_err-f : goal.returns-in_err-f
returns-in_err-f c fs e p u = over c.from_residual.ensures (scan_short c.loop-i.invariant.1 c.formal_at.ensures c.in_err-f.ensures.value u p)

pub returns-in_err-formal_verdict : goal.returns-in_err-formal_verdict
returns-in_err-formal_verdict c fs e p u = over c.from_residual-in_err-formal_verdict.ensures (scan_over c.loop-i.invariant.1 c.formal_at.ensures c.in_ok-f.ensures.value u p c.formal_at.new.stack c.formal_at.auto.stack (λ w q gs y. told_short (c.in_err-formal_verdict.ensures gs e y (read_free _ _ _ q w).0)))

pub returns-then-branch : goal.returns-then-branch
returns-then-branch c fs e p u = answered (scan_said c.loop-i.invariant.1 c.formal_at.ensures c.in_ok-f.ensures.value u p true (λ w q gs y. bad_here _ _ gs (told (c.in_ok-formal_verdict.ensures gs e y (read_free _ _ _ q w).0) ∙ c.if-branch.true)))

pub returns-then-f : goal.returns-then-f
returns-then-f c fs e p u = answered (scan_last c.loop-i.invariant.1 c.formal_at.ensures c.in_ok-f.ensures.value (λ w q gs e y. bad_past _ _ gs (told (c.in_ok-formal_verdict.ensures gs e y (read_free _ _ _ q w).0) ∙ c.if-branch.false)) c.if-f.true (bad_none _ refl) u p)

pub loop-i-smaller : goal.loop-i-smaller
loop-i-smaller c = scan_less c.loop-i.invariant.1 c.formal_at.ensures c.in_ok-f.ensures.value c.loop-i-test.true

pub loop-i-preserved : goal.loop-i-preserved
loop-i-preserved c = (omega (arith, c.loop-i.invariant.0), scan_next c.loop-i.invariant.1 c.formal_at.ensures c.in_ok-f.ensures.value (λ w q gs e y. bad_past _ _ gs (told (c.in_ok-formal_verdict.ensures gs e y (read_free _ _ _ q w).0) ∙ c.if-branch.false)) (λ w q. (read_free _ _ _ q w).1) c.if-f.false (omega arith))

pub returns : goal.returns
returns c fs e p u = scan_out c.loop-i.invariant.1 c.loop-i-test.false u p
