-- `store::undefine` meets its contract: the macro that the search finds is taken out.
-- Assumes nothing.
use native.Mathlib.Omega.{arith}
use Rattle.store.proofs.Places.{found_below, undefined_at, undefined_missing}
use Rattle.store.proofs.undefine.Goals as goal

pub remove_at-requires : goal.remove_at-requires
remove_at-requires c =
    (found_below c.args.w.now c.requires.1.holds (c.find.ensures _ c.requires.1.holds) _ c.in-Ok.is, c.requires.0, c.requires.1)

pub overflow_sub-result : goal.overflow_sub-result
overflow_sub-result c = omega (arith, found_below c.args.w.now c.requires.1.holds (c.find.ensures _ c.requires.1.holds) _ c.in-Ok.is)

pub returns-in-Ok : goal.returns-in-Ok
returns-in-Ok c ms h = undefined_at c.args.w.now h (c.find.ensures ms h) _ c.in-Ok.is (c.remove_at.ensures ms h)

pub returns-in-Err : goal.returns-in-Err
returns-in-Err c ms h = undefined_missing c.args.w.now h (c.find.ensures ms h) _ c.in-Err.is
