-- `records::flatten` meets its contract. Assumes nothing.
use Rattle.std.proofs.Common.{◌∙◌, ap, arith}
use Rattle.flatten.specs.Flattening.{hand_over}
use Rattle.records.specs.Rows.{filled}
use Rattle.records.proofs.Filling.{clears_in, fills_in, fills_few, flattens_back}
use Rattle.records.proofs.flatten.Goals as goal

pub clear-requires : goal.clear-requires
clear-requires c =
    let a = c.args in
    clears_in (hand_over a.files.now a.table.now a.root a.starts.now a.set a.limit) a.records.now _ _ _ _ _ _ _ c.flatten_rows-d.ensures

pub fill-requires : goal.fill-requires
fill-requires c =
    let a = c.args in
    let h = hand_over a.files.now a.table.now a.root a.starts.now a.set a.limit in
    let within = fills_in h a.records.now _ _ _ _ _ _ _ c.flatten_rows-d.ensures in
    let few = fills_few h a.records.now _ _ _ _ _ _ _ c.flatten_rows-d.ensures in
    (omega arith, few)

pub returns : goal.returns
returns c =
    let a = c.args in
    let t = c.flatten_rows-d.result.table in
    flattens_back (hand_over a.files.now a.table.now a.root a.starts.now a.set a.limit) a.records.now _ _ _ _ _ _ _ c.flatten_rows-d.ensures _
    (c.fill.ensures ∙ ap (λ us. filled us t t.length) c.clear.ensures)
