-- `records::flatten_in` meets its contract. Assumes nothing.
use Rattle.flatten.specs.Flattening.{hand_over}
use Rattle.records.proofs.Keeping.{macros_room, keeps_made}
use Rattle.records.proofs.flatten_in.Goals as goal

pub table_of-t-requires : goal.table_of-t-requires
table_of-t-requires c =
    let a = c.args in
    macros_room (hand_over a.files.now a.table.now a.root a.starts.now a.set a.limit) a.n c.at_most-k.result _ _ _ _ _ _ a.rows.now _ _ c.requires c.at_most-k.ensures c.flatten-a.auto.records c.flatten-a.ensures

pub returns : goal.returns
returns c =
    let a = c.args in
    keeps_made (hand_over a.files.now a.table.now a.root a.starts.now a.set a.limit) a.n c.at_most-k.result _ _ _ _ _ _ a.rows.now _ _ c.requires c.at_most-k.ensures c.flatten-a.auto.records c.flatten-a.ensures _ _
    c.table_of-t.ensures c.clears_of-clears.ensures
