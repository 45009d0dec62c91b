-- `records::clear` meets its contract. Assumes nothing.
use Rattle.std.proofs.Common.{◌∙◌, ◌-◌, sym, ap, arith}
use Rattle.records.specs.Rows.{cleared}
use Rattle.records.proofs.Turns.{cleared_turn, cleared_none}
use Rattle.records.proofs.clear.Goals as goal

pub loop-i-preserved : goal.loop-i-preserved
loop-i-preserved c = record {
  long = omega arith;
  upto = omega arith;
  reached =
      ap (λ us. cleared us (c.loop-i.i - 1)) c.remove.ensures ∙ cleared_turn c.loop-i.records c.loop-i.i (omega arith) ∙ c.loop-i.invariant.reached;
}

pub returns : goal.returns
returns c = sym (cleared_none c.loop-i.records c.loop-i.i (omega arith)) ∙ c.loop-i.invariant.reached
