use native.Mathlib.Omega.{arith}
use mathlib.Core.Path.{refl}
use Rattle.replace.proofs.Keeping.{keep_first, keep_last, keep_none, keep_break, keep_spacing, keep_put, keep_full, room_put}
use Rattle.replace.proofs.push_kept.Goals as goal

pub loop-i-init : goal.loop-i-init
loop-i-init c = (record { same_length = refl; fits = c.requires.1.filled }, λ ps sp m. keep_first _ _ c.requires.1 sp)

pub returns-in_default : goal.returns-in_default
returns-in_default c ps sp m = absurd (keep_none _ _ _ _ _ (c.loop-i.invariant.1 ps sp m) c.loop-i-test.true m (c.in_default.ensures c.args.b.now))

pub loop-i-smaller-then-is_break : goal.loop-i-smaller-then-is_break
loop-i-smaller-then-is_break c = let z = c.in-Some.ensures c.args.b.now in omega arith

pub loop-i-preserved-then-is_break : goal.loop-i-preserved-then-is_break
loop-i-preserved-then-is_break c = (c.loop-i.invariant.0, λ ps sp m. keep_break _ _ _ _ _ (c.loop-i.invariant.1 ps sp m) c.loop-i-test.true m c.in-Some.t (c.in-Some.ensures c.args.b.now) _ c.is_break.ensures c.if-is_break.true)

pub loop-i-smaller-then-k-at : goal.loop-i-smaller-then-k-at
loop-i-smaller-then-k-at c = let z = c.in-Some.ensures c.args.b.now in omega arith

pub loop-i-preserved-then-k-at : goal.loop-i-preserved-then-k-at
loop-i-preserved-then-k-at c = (c.loop-i.invariant.0, λ ps sp m. keep_spacing _ _ _ _ _ (c.loop-i.invariant.1 ps sp m) c.loop-i-test.true m c.in-Some.t (c.in-Some.ensures c.args.b.now) _ c.is_break.ensures c.if-is_break.false c.clean-p.result c.clean-p.ensures _ c.is_spacing.ensures c.if-k-at.true)

pub loop-i-smaller : goal.loop-i-smaller
loop-i-smaller c = let z = c.in-Some.ensures c.args.b.now in omega arith

pub loop-i-preserved : goal.loop-i-preserved
loop-i-preserved c = (room_put c.loop-i.invariant.0 (c.in_ok-k.ensures c.args.s.now c.args.b.now), λ ps sp m. keep_put _ _ _ _ _ (c.loop-i.invariant.1 ps sp m) c.loop-i-test.true m c.in-Some.t (c.in-Some.ensures c.args.b.now) _ c.is_break.ensures c.if-is_break.false c.clean-p.result c.clean-p.ensures _ c.is_spacing.ensures c.if-k-at.false c.push.new.out (c.in_ok-k.ensures c.args.s.now c.args.b.now))

pub returns-in_err-k : goal.returns-in_err-k
returns-in_err-k c ps sp m = rw c.from_residual.ensures (keep_full _ _ _ _ _ (c.loop-i.invariant.1 ps sp m) c.loop-i-test.true m c.in-Some.t (c.in-Some.ensures c.args.b.now) _ c.is_break.ensures c.if-is_break.false c.clean-p.result c.clean-p.ensures _ c.is_spacing.ensures c.if-k-at.false c.push.new.out (c.in_err-k.ensures c.args.s.now c.args.b.now))

pub returns : goal.returns
returns c ps sp m = keep_last (c.loop-i.invariant.1 ps sp m) c.loop-i-test.false
