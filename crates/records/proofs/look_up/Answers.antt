-- `records::look_up` meets its contract. Assumes nothing.
use Rattle.records.proofs.Loaded.{loaded_fits}
use Rattle.records.proofs.Shown.{shown_loaded}
use Rattle.records.proofs.look_up.Goals as goal

pub look_up_rows-requires : goal.look_up_rows-requires
look_up_rows-requires c = loaded_fits c.args.records.now c.load-t.result c.load-t.ensures

pub returns : goal.returns
returns c =
    shown_loaded c.args.records.now c.args.bytes.now c.args.name.now _ c.load-t.result c.load-t.ensures c.rest_is_zero-zero.result c.rest_is_zero-zero.ensures c.look_up_rows.ensures
