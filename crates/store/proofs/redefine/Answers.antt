-- `store::redefine` meets its contract: the number of macros stays, so the bytes alone decide.
-- Assumes nothing.
use Rattle.store.proofs.Replacing.{old_ordered, old_live, kept_fits, replace_room, redefine_refused, redefine_done}
use Rattle.store.proofs.redefine.Goals as goal

pub overflow_sub-kept : goal.overflow_sub-kept
overflow_sub-kept c = old_ordered c.requires.1.stored.holds c.requires.0 c.read-old.ensures

pub overflow_sub-kept-2 : goal.overflow_sub-kept-2
overflow_sub-kept-2 c = old_live c.requires.1.stored.holds c.requires.0 c.read-old.ensures c.start_of-live.ensures

pub overflow_sub-bytes : goal.overflow_sub-bytes
overflow_sub-bytes c = kept_fits c.requires.1.stored.holds c.requires.0 c.read-old.ensures c.start_of-live.ensures

pub returns-then-bytes-kept : goal.returns-then-bytes-kept
returns-then-bytes-kept c ms m h g = redefine_refused c.requires.0 c.requires.1 c.read-old.ensures c.start_of-live.ensures ms m h g c.if-bytes-kept.true

pub replace_at-requires : goal.replace_at-requires
replace_at-requires c = replace_room c.requires.0 c.requires.1 c.read-old.ensures c.start_of-live.ensures c.if-bytes-kept.false

pub returns : goal.returns
returns c ms m h g = redefine_done c.requires.0 c.requires.1 c.read-old.ensures c.start_of-live.ensures ms m h g c.if-bytes-kept.false (c.replace_at.ensures ms m h g)
