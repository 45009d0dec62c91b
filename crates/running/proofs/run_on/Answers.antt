use mathlib.Core.Path.{refl, ◌∙◌}
use native.Mathlib.Omega.{arith}
use Rattle.steps.specs.Standing.{bufs}
use Rattle.running.proofs.Advancing.{runs_none, runs_less, runs_more, runs_all}
use Rattle.running.proofs.run_on.Goals as goal

pub loop-y-init : goal.loop-y-init
loop-y-init c = (record { bytes = refl; records = refl; frames = refl; conds = refl; name = refl; form = refl; list = refl; out = refl; ranges = refl; stack = refl; work = refl; quoted = refl; decimal = refl; text = refl; map = refl }, runs_none c.requires.0)

pub advance-r-requires : goal.advance-r-requires
advance-r-requires c =
    let k = c.loop-y.invariant.0 in
    let w = c.requires.1 in (
      c.loop-y.invariant.1.going,
      record {
        list_lent = omega (arith, k.list, w.list_lent);
        out_lent = omega (arith, k.out, w.out_lent);
        ranges_lent = omega (arith, k.ranges, w.ranges_lent);
        stack_lent = omega (arith, k.stack, w.stack_lent);
        work_lent = omega (arith, k.work, w.work_lent);
        quoted_lent = omega (arith, k.quoted, w.quoted_lent);
        decimal_lent = omega (arith, k.decimal, w.decimal_lent);
        name_lent = omega (arith, k.name, w.name_lent);
        form_lent = omega (arith, k.form, w.form_lent);
      },
    )

pub loop-y-smaller : goal.loop-y-smaller
loop-y-smaller c = runs_less c.loop-y.invariant.1 c.advance-r.result (bufs c.advance-r.new.text c.advance-r.new.map c.advance-r.new.bytes c.advance-r.new.records c.advance-r.new.frames c.advance-r.new.conds) c.advance-r.ensures c.in-On.is

pub loop-y-preserved : goal.loop-y-preserved
loop-y-preserved c = (
  record { bytes = c.advance-r.auto.bytes ∙ c.loop-y.invariant.0.bytes; records = c.advance-r.auto.records ∙ c.loop-y.invariant.0.records; frames = c.advance-r.auto.frames ∙ c.loop-y.invariant.0.frames; conds = c.advance-r.auto.conds ∙ c.loop-y.invariant.0.conds; name = c.advance-r.auto.name ∙ c.loop-y.invariant.0.name; form = c.advance-r.auto.form ∙ c.loop-y.invariant.0.form; list = c.advance-r.auto.list ∙ c.loop-y.invariant.0.list; out = c.advance-r.auto.out ∙ c.loop-y.invariant.0.out; ranges = c.advance-r.auto.ranges ∙ c.loop-y.invariant.0.ranges; stack = c.advance-r.auto.stack ∙ c.loop-y.invariant.0.stack; work = c.advance-r.auto.work ∙ c.loop-y.invariant.0.work; quoted = c.advance-r.auto.quoted ∙ c.loop-y.invariant.0.quoted; decimal = c.advance-r.auto.decimal ∙ c.loop-y.invariant.0.decimal; text = c.advance-r.auto.text ∙ c.loop-y.invariant.0.text; map = c.advance-r.auto.map ∙ c.loop-y.invariant.0.map },
  runs_more c.loop-y.invariant.1 c.advance-r.result (bufs c.advance-r.new.text c.advance-r.new.map c.advance-r.new.bytes c.advance-r.new.records c.advance-r.new.frames c.advance-r.new.conds) c.advance-r.ensures c.in-On.is c.advance-r.auto.bytes c.advance-r.auto.records,
)

pub shape_of-bytes-in-Ended : goal.shape_of-bytes-in-Ended
shape_of-bytes-in-Ended c = c.advance-r.auto.bytes ∙ c.loop-y.invariant.0.bytes

pub shape_of-records-in-Ended : goal.shape_of-records-in-Ended
shape_of-records-in-Ended c = c.advance-r.auto.records ∙ c.loop-y.invariant.0.records

pub shape_of-frames-in-Ended : goal.shape_of-frames-in-Ended
shape_of-frames-in-Ended c = c.advance-r.auto.frames ∙ c.loop-y.invariant.0.frames

pub shape_of-conds-in-Ended : goal.shape_of-conds-in-Ended
shape_of-conds-in-Ended c = c.advance-r.auto.conds ∙ c.loop-y.invariant.0.conds

pub shape_of-name-in-Ended : goal.shape_of-name-in-Ended
shape_of-name-in-Ended c = c.advance-r.auto.name ∙ c.loop-y.invariant.0.name

pub shape_of-form-in-Ended : goal.shape_of-form-in-Ended
shape_of-form-in-Ended c = c.advance-r.auto.form ∙ c.loop-y.invariant.0.form

pub shape_of-list-in-Ended : goal.shape_of-list-in-Ended
shape_of-list-in-Ended c = c.advance-r.auto.list ∙ c.loop-y.invariant.0.list

pub shape_of-out-in-Ended : goal.shape_of-out-in-Ended
shape_of-out-in-Ended c = c.advance-r.auto.out ∙ c.loop-y.invariant.0.out

pub shape_of-ranges-in-Ended : goal.shape_of-ranges-in-Ended
shape_of-ranges-in-Ended c = c.advance-r.auto.ranges ∙ c.loop-y.invariant.0.ranges

pub shape_of-stack-in-Ended : goal.shape_of-stack-in-Ended
shape_of-stack-in-Ended c = c.advance-r.auto.stack ∙ c.loop-y.invariant.0.stack

pub shape_of-work-in-Ended : goal.shape_of-work-in-Ended
shape_of-work-in-Ended c = c.advance-r.auto.work ∙ c.loop-y.invariant.0.work

pub shape_of-quoted-in-Ended : goal.shape_of-quoted-in-Ended
shape_of-quoted-in-Ended c = c.advance-r.auto.quoted ∙ c.loop-y.invariant.0.quoted

pub shape_of-decimal-in-Ended : goal.shape_of-decimal-in-Ended
shape_of-decimal-in-Ended c = c.advance-r.auto.decimal ∙ c.loop-y.invariant.0.decimal

pub shape_of-text-in-Ended : goal.shape_of-text-in-Ended
shape_of-text-in-Ended c = c.advance-r.auto.text ∙ c.loop-y.invariant.0.text

pub shape_of-map-in-Ended : goal.shape_of-map-in-Ended
shape_of-map-in-Ended c = c.advance-r.auto.map ∙ c.loop-y.invariant.0.map

pub returns-in-Ended : goal.returns-in-Ended
returns-in-Ended c = runs_all c.loop-y.invariant.1 c.advance-r.result (bufs c.advance-r.new.text c.advance-r.new.map c.advance-r.new.bytes c.advance-r.new.records c.advance-r.new.frames c.advance-r.new.conds) c.advance-r.ensures c.in-Ended.is
