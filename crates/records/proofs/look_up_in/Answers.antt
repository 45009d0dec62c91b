-- `records::look_up_in` meets its contract. Assumes nothing.
use Rattle.std.proofs.Common.{arith}
use Rattle.records.proofs.Shown.{shown_written}
use Rattle.records.proofs.look_up_in.Goals as goal

pub returns : goal.returns
returns c = shown_written c.args.rows.now _ c.args.t (omega arith) (omega arith) c.write_rows.ensures c.look_up.ensures
