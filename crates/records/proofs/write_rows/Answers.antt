-- `records::write_rows` meets its contract. Assumes nothing.
use Rattle.std.proofs.Common.{arith}
use Rattle.records.proofs.Tables.{rowed_first, rowed_turn}
use Rattle.records.proofs.write_rows.Goals as goal

pub loop-i-init : goal.loop-i-init
loop-i-init c = record {
  upto = omega arith;
  reached = rowed_first c.args.rows.now c.args.t;
}

pub loop-i-preserved : goal.loop-i-preserved
loop-i-preserved c = record {
  upto = omega arith;
  reached = rowed_turn c.args.rows.now c.args.t c.loop-i.i c.loop-i.invariant.reached c.record_at-r.ensures;
}
