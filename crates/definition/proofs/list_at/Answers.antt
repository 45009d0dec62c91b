use native.Mathlib.Omega.{arith}
use Rattle.std.proofs.lemmas.Result.{err_from_is_err_and}
use Rattle.definition.proofs.Counting.{counted_first, counted_out, counted_err, counted_goes, counted_last, counted_next}
use Rattle.definition.proofs.list_at.Goals as goal

pub loop-i-init : goal.loop-i-init
loop-i-init c = counted_first _ _ _

pub returns-in_err-f : goal.returns-in_err-f
returns-in_err-f c =
    let p = err_from_is_err_and c.from_residual.result c.from_residual.ensures.1 in
    rw (p.1, p.2) (counted_err c.loop-i.invariant c.in_err-f.ensures)

pub returns-then-f : goal.returns-then-f
returns-then-f c = counted_last c.loop-i.invariant c.in_ok-f.ensures c.if-f.true

pub loop-i-smaller : goal.loop-i-smaller
loop-i-smaller c = let h = counted_goes c.loop-i.invariant c.in_ok-f.ensures in omega arith

pub loop-i-preserved : goal.loop-i-preserved
loop-i-preserved c = counted_next c.loop-i.invariant c.in_ok-f.ensures c.if-f.false c.formal_at.auto.stack

pub returns : goal.returns
returns c = counted_out c.loop-i.invariant c.loop-i-test.false
