-- `store::replace_at` meets its contract: the new form in the old one's place, and the records behind it moved.
-- Assumes nothing.
use native.Mathlib.Omega.{arith}
use Rattle.store.proofs.Additions.{text_within}
use Rattle.store.proofs.Replacing.{old_ordered, form_small, row_there, rows_there, splice_room, replaced}
use Rattle.store.proofs.replace_at.Goals as goal

pub overflow_sub-size : goal.overflow_sub-size
overflow_sub-size c = old_ordered c.requires.lent.stored.holds c.requires.place c.read-old.ensures

pub splice-requires : goal.splice-requires
splice-requires c = splice_room c.requires c.read-old.ensures c.start_of-live.ensures

pub overflow_add-r : goal.overflow_add-r
overflow_add-r c = omega (arith, c.read-old.ensures.small.start_small, text_within c.requires.lent.form-of, form_small c.requires)

pub overflow_sub-r : goal.overflow_sub-r
overflow_sub-r c = text_within c.requires.lent.form-of

pub replace-requires : goal.replace-requires
replace-requires c = row_there c.requires

pub shift-requires : goal.shift-requires
shift-requires c = (rows_there c.requires c.replace.new.records _ c.replace.ensures, form_small c.requires)

pub returns : goal.returns
returns c = replaced c.requires c.read-old.ensures c.start_of-live.ensures c.splice.ensures c.replace.ensures c.shift.ensures
