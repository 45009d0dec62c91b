-- `records::pass_in` meets its contract. Assumes nothing.
use Rattle.std.proofs.Common.{arith}
use Rattle.records.proofs.Passed.{passed_written}
use Rattle.records.proofs.pass_in.Goals as goal

pub returns : goal.returns
returns c = passed_written c.args.rows.now _ c.args.t (omega arith) (omega arith) c.write_rows.ensures c.pass.ensures
