-- `store::insert_at` meets its contract: the new form between those before it and those behind it, its record likewise.
-- Assumes nothing.
use native.Mathlib.Omega.{arith}
use Rattle.store.proofs.Additions.{bytes_room, text_small, text_within, inserted}
use Rattle.store.proofs.insert_at.Goals as goal

pub splice-requires : goal.splice-requires
splice-requires c = bytes_room c.requires c.start_of-start.ensures c.start_of-live.ensures

pub overflow_add-r : goal.overflow_add-r
overflow_add-r c = omega (arith, text_small c.requires c.start_of-start.ensures c.start_of-live.ensures)

pub overflow_sub-r : goal.overflow_sub-r
overflow_sub-r c = text_within c.requires.lent.form-of

pub returns : goal.returns
returns c = inserted c.requires c.start_of-start.ensures c.start_of-live.ensures c.splice.ensures c.insert.ensures c.shift.ensures
