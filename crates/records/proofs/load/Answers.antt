-- `records::load` meets its contract. Assumes nothing.
use Rattle.std.proofs.Common.{◌∙◌, arith}
use Rattle.records.proofs.Tables.{tabled_first, tabled_turn}
use Rattle.records.proofs.load.Goals as goal

pub loop-i-init : goal.loop-i-init
loop-i-init c = record {
  upto = omega arith;
  reached = c.no_table-t.ensures ∙ tabled_first _;
}

pub loop-i-preserved : goal.loop-i-preserved
loop-i-preserved c = record {
  upto = omega arith;
  reached = tabled_turn _ c.loop-i.i c.loop-i.invariant.reached c.read.ensures c.with_row-t.ensures;
}
