-- `records::fill` meets its contract. Assumes nothing.
use Rattle.std.proofs.Common.{◌∙◌, refl, ap, arith}
use Rattle.records.specs.Records.{inserted}
use Rattle.records.specs.Rows.{record_at}
use Rattle.records.proofs.Turns.{filled_first, filled_turn}
use Rattle.records.proofs.fill.Goals as goal

pub loop-i-init : goal.loop-i-init
loop-i-init c = record {
  long = refl;
  upto = omega arith;
  reached = filled_first c.args.records.now c.args.t;
}

pub loop-i-preserved : goal.loop-i-preserved
loop-i-preserved c =
    let i = c.loop-i.i in
    record {
      long = omega arith;
      upto = omega arith;
      reached =
          c.insert.ensures
          ∙ ap (inserted c.loop-i.records i i) c.record_at-r.ensures
          ∙ ap (λ us. inserted us i i (record_at c.args.t i)) c.loop-i.invariant.reached
          ∙ filled_turn c.args.records.now c.args.t i;
    }
