-- `records::pass` meets its contract. Assumes nothing.
use Rattle.records.proofs.Loaded.{loaded_fits}
use Rattle.records.proofs.Passed.{passed_loaded}
use Rattle.records.proofs.pass.Goals as goal

pub pass_rows-requires : goal.pass_rows-requires
pass_rows-requires c = loaded_fits c.args.records.now c.load-t.result c.load-t.ensures

pub returns : goal.returns
returns c =
    passed_loaded c.args.records.now c.args.bytes.now _ c.load-t.result c.load-t.ensures c.rest_is_zero-zero.result c.rest_is_zero-zero.ensures c.pass_rows.ensures
