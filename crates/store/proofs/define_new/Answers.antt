-- `store::define_new` meets its contract: its three tests decide whether the macros fit.
-- Assumes nothing.
use Rattle.store.proofs.Additions.{no_number, no_record, no_bytes, inserts, put-in}
use Rattle.store.proofs.define_new.Goals as goal

pub returns-then-count-ge256 : goal.returns-then-count-ge256
returns-then-count-ge256 c = no_number c.requires.0 c.start_of-live.ensures c.if-count-ge256.true

pub returns-then-records-count : goal.returns-then-records-count
returns-then-records-count c = no_record c.requires.0 c.start_of-live.ensures c.if-count-ge256.false c.if-records-count.true

pub returns-then-bytes-live : goal.returns-then-bytes-live
returns-then-bytes-live c = no_bytes c.requires.0 c.start_of-live.ensures c.if-count-ge256.false c.if-records-count.false c.if-bytes-live.true

pub insert_at-requires : goal.insert_at-requires
insert_at-requires c = inserts c.requires.0 c.start_of-live.ensures c.if-count-ge256.false c.if-records-count.false c.if-bytes-live.false c.requires.1

pub returns : goal.returns
returns c = put-in c.requires.0 c.start_of-live.ensures c.if-count-ge256.false c.if-records-count.false c.if-bytes-live.false c.insert_at.ensures
