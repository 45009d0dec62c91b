use mathlib.Core.Bool.{true}
use mathlib.Core.Path.{refl}
use native.Mathlib.Omega.{arith}
use Rattle.brackets.specs.Stacks.{over}
use Rattle.definition.proofs.Verdicts.{answered}
use Rattle.definition.proofs.Scanning.{scan_said, scan_last, scan_less, scan_next, scan_short, scan_out, named_none, named_here, named_past}
use Rattle.definition.proofs.named_later.Goals as goal

pub returns-in_err-f : goal.returns-in_err-f
returns-in_err-f c fs e p = over c.from_residual.ensures (scan_short c.loop-i.invariant c.formal_at.ensures c.in_err-f.ensures.value tt p)

pub returns-then-same : goal.returns-then-same
returns-then-same c fs e p = answered (scan_said c.loop-i.invariant c.formal_at.ensures c.in_ok-f.ensures.value tt p true (λ u q gs y. named_here _ _ _ c.part_of.ensures c.part_of-in-loop-i.ensures _ c.same.ensures gs c.if-same.true))

pub returns-then-f : goal.returns-then-f
returns-then-f c fs e p = answered (scan_last c.loop-i.invariant c.formal_at.ensures c.in_ok-f.ensures.value (λ u q gs e y. named_past _ _ _ c.part_of.ensures c.part_of-in-loop-i.ensures _ c.same.ensures gs c.if-same.false) c.if-f.true (named_none _ _ refl) tt p)

pub loop-i-smaller : goal.loop-i-smaller
loop-i-smaller c = scan_less c.loop-i.invariant c.formal_at.ensures c.in_ok-f.ensures.value c.loop-i-test.true

pub loop-i-preserved : goal.loop-i-preserved
loop-i-preserved c = scan_next c.loop-i.invariant c.formal_at.ensures c.in_ok-f.ensures.value (λ u q gs e y. named_past _ _ _ c.part_of.ensures c.part_of-in-loop-i.ensures _ c.same.ensures gs c.if-same.false) (λ u q. tt) c.if-f.false (omega arith)

pub returns : goal.returns
returns c fs e p = scan_out c.loop-i.invariant c.loop-i-test.false tt p
