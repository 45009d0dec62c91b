-- `store::find` meets its contract: the order of the name to that of macro `i` decides, or the search goes on.
-- Assumes nothing.
use mathlib.Core.Path.{sym, ap, ◌∙◌}
use native.Mathlib.Omega.{arith}
use Rattle.std.proofs.Common.{◌≡◌, Err}
use Rattle.std.specs.declared.cmp.Ordering.TheVariants.{Less, Equal, Greater}
use Rattle.store.proofs.Entries.{found_end, turn}
use Rattle.store.proofs.find.Goals as goal

pub returns-in-Less : goal.returns-in-Less
returns-in-Less c = turn c.args.w.now c.loop-i-test.true c.loop-i.invariant c.order_at.ensures Less c.in-Less.is

pub returns-in-Equal : goal.returns-in-Equal
returns-in-Equal c = turn c.args.w.now c.loop-i-test.true c.loop-i.invariant c.order_at.ensures Equal c.in-Equal.is

pub loop-i-preserved : goal.loop-i-preserved
loop-i-preserved c = turn c.args.w.now c.loop-i-test.true c.loop-i.invariant c.order_at.ensures Greater c.in-Greater.is

pub returns : goal.returns
returns c ms h =
    let e : c.args.count ≡ c.loop-i.i = omega arith in
    ap Err e ∙ sym (found_end c.args.w.now ms c.loop-i.i (omega (arith, h.count, c.loop-i-test.false))) ∙ c.loop-i.invariant ms h
