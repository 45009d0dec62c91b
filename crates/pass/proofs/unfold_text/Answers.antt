use native.Mathlib.Omega.{arith}
use Rattle.pass.proofs.Unfolding.{unfold_none, unfold_room, unfold_small, unfold_less, unfold_more, unfold_all}
use Rattle.pass.proofs.unfold_text.Goals as goal

pub loop-i-init : goal.loop-i-init
loop-i-init c = unfold_none c.part_of-w.ensures

pub overflow_add-k : goal.overflow_add-k
overflow_add-k c = omega (arith, unfold_room c.loop-i.invariant c.loop-i-test.true c.in_text.ensures c.token_at-t.ensures c.requires.0)

pub stored_ref-requires : goal.stored_ref-requires
stored_ref-requires c = unfold_small c.loop-i.invariant c.loop-i-test.true c.in_text.ensures c.token_at-t.ensures c.requires.1 c.requires.2

pub overflow_sub-list : goal.overflow_sub-list
overflow_sub-list c = omega (arith, unfold_room c.loop-i.invariant c.loop-i-test.true c.in_text.ensures c.token_at-t.ensures c.requires.0)

pub offset_bounds-list-list : goal.offset_bounds-list-list
offset_bounds-list-list c = omega (arith, unfold_room c.loop-i.invariant c.loop-i-test.true c.in_text.ensures c.token_at-t.ensures c.requires.0, c.well_formed.1.1.0.1)

pub bounds-list-list : goal.bounds-list-list
bounds-list-list c = omega (arith, unfold_room c.loop-i.invariant c.loop-i-test.true c.in_text.ensures c.token_at-t.ensures c.requires.0)

pub loop-i-smaller : goal.loop-i-smaller
loop-i-smaller c = unfold_less c.loop-i.invariant c.loop-i-test.true c.in_text.ensures c.token_at-t.ensures

pub loop-i-preserved : goal.loop-i-preserved
loop-i-preserved c = unfold_more c.loop-i.invariant c.loop-i-test.true c.in_text.ensures c.token_at-t.ensures c.requires.0 c.empty.ensures c.stored_ref.ensures c.numbers_of.ensures c.marks_after-marks.ensures

pub shape_of-list : goal.shape_of-list
shape_of-list c = c.loop-i.invariant.same_length

pub returns : goal.returns
returns c = unfold_all c.loop-i.invariant c.loop-i-test.false c.requires.0
