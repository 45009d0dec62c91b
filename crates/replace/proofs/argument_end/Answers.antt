use native.Mathlib.Omega.{arith}
use Rattle.replace.proofs.Trimming.{trim_first, trim_last, trim_none, trim_blank, trim_break, trim_kept}
use Rattle.replace.proofs.argument_end.Goals as goal

pub loop-i-init : goal.loop-i-init
loop-i-init c ps sp m = trim_first sp

pub returns-in_default : goal.returns-in_default
returns-in_default c ps sp m = absurd (trim_none _ _ _ _ _ (c.loop-i.invariant ps sp m) c.loop-i-test.true m (c.in_default.ensures c.args.b.now))

pub loop-i-smaller-then-is_blank : goal.loop-i-smaller-then-is_blank
loop-i-smaller-then-is_blank c = let z = c.in-Some.ensures c.args.b.now in omega arith

pub loop-i-preserved-then-is_blank : goal.loop-i-preserved-then-is_blank
loop-i-preserved-then-is_blank c ps sp m = trim_blank _ _ _ _ _ (c.loop-i.invariant ps sp m) c.loop-i-test.true m c.in-Some.t (c.in-Some.ensures c.args.b.now) _ c.is_blank.ensures c.if-is_blank.true

pub loop-i-smaller-then-is_break : goal.loop-i-smaller-then-is_break
loop-i-smaller-then-is_break c = let z = c.in-Some.ensures c.args.b.now in omega arith

pub loop-i-preserved-then-is_break : goal.loop-i-preserved-then-is_break
loop-i-preserved-then-is_break c ps sp m = trim_break _ _ _ _ _ (c.loop-i.invariant ps sp m) c.loop-i-test.true m c.in-Some.t (c.in-Some.ensures c.args.b.now) _ c.is_break.ensures c.if-is_break.true

pub loop-i-smaller : goal.loop-i-smaller
loop-i-smaller c = let z = c.in-Some.ensures c.args.b.now in omega arith

pub loop-i-preserved : goal.loop-i-preserved
loop-i-preserved c ps sp m = trim_kept _ _ _ _ _ (c.loop-i.invariant ps sp m) c.loop-i-test.true m c.in-Some.t (c.in-Some.ensures c.args.b.now) _ c.is_break.ensures _ c.is_blank.ensures c.if-is_blank.false c.if-is_break.false

pub returns : goal.returns
returns c ps sp m = trim_last (c.loop-i.invariant ps sp m) c.loop-i-test.false
