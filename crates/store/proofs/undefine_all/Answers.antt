-- `store::undefine_all` meets its contract: what is live is cleared, and the rest is blank already.
-- Assumes nothing.
use Rattle.store.proofs.Entries.{rows_fit}
use Rattle.store.proofs.Additions.{live_is}
use Rattle.store.proofs.Emptying.{emptied}
use Rattle.store.proofs.undefine_all.Goals as goal

pub clear_records-requires : goal.clear_records-requires
clear_records-requires c = rows_fit c.requires.holds

pub returns : goal.returns
returns c = emptied c.requires.holds (live_is c.start_of-live.ensures c.requires.holds) c.clear.ensures c.clear_records.ensures
