-- `expand::expand` meets its contract, from what `resolve`, `accept`, `put_first` and `run` answer.
-- Assumes nothing.
use native.Mathlib.Omega.{arith}
use Rattle.expand.specs.Standing.{outer}
use Rattle.expand.proofs.Running.{first_refused, named_small, expands_refused, usage_in, usage_stands, usage_barred, usage_ended, usage_run}
use Rattle.expand.proofs.expand.Goals as goal

pub put_first-t-requires : goal.put_first-t-requires
put_first-t-requires c =
    let l = c.requires.2 in
    let r = c.read-q.ensures in (
      record {
        bytes_small = l.bytes_small;
        record_small = r.small;
        macro_small = omega (arith, l.few_macros, named_small l.stored.macros c.args.w.now c.args.s.now c.args.at c.empty.ensures c.args.macros c.resolve-c.result (c.resolve-c.ensures l.stored.macros l.stored.holds) c.in-Ok.is);
        filled = omega arith;
        base_small = omega arith;
        list_lent = l.list_lent;
        out_lent = l.out_lent;
        ranges_lent = omega (arith, l.ranges_lent, c.accept-f.auto.ranges);
      },
      usage_in c.args.s.now c.args.w.now c.args.b.now c.args.at c.args.records.now c.args.macros c.requires.2.bytes_small c.empty.ensures c.resolve-c.result c.resolve-c.ensures c.in-Ok.is c.read-q.ensures c.args.list.now c.accept-f.new.ranges c.accept-f.result c.accept-f.ensures c.in-Ok-f.is l.stored,
    )

pub run-requires : goal.run-requires
run-requires c =
    let l = c.requires.2 in (
      usage_stands c.args.s.now c.args.w.now c.args.b.now c.args.at c.args.records.now c.args.macros c.requires.2.bytes_small c.empty.ensures c.resolve-c.result c.resolve-c.ensures c.in-Ok.is c.read-q.ensures c.args.list.now c.accept-f.new.ranges c.accept-f.result c.accept-f.ensures c.in-Ok-f.is c.put_first-t.result c.put_first-t.new.list c.args.limit c.args.z c.put_first-t.ensures l.stored c.in-On.is c.requires.1,
      record {
        file_small = l.file_small;
        bytes_small = l.bytes_small;
        few_macros = l.few_macros;
        stored = l.stored;
        list_lent = omega (arith, l.list_lent, c.put_first-t.auto.list);
        out_lent = omega (arith, l.out_lent, c.put_first-t.auto.out);
        ranges_lent = omega (arith, l.ranges_lent, c.put_first-t.auto.ranges, c.accept-f.auto.ranges);
        brackets_lent = omega (arith, l.brackets_lent, c.accept-f.auto.stack);
      },
      c.requires.3,
    )

pub returns-in-Err : goal.returns-in-Err
returns-in-Err c ms h =
    expands_refused (outer c.args.file.now c.args.line.now c.args.place) ms c.args.limit c.args.w.now c.args.s.now c.args.at c.args.text.now c.args.map.now c.args.z (first_refused ms c.args.w.now c.args.s.now c.args.at c.empty.ensures c.args.macros c.resolve-c.result (c.resolve-c.ensures ms h) c.in-Err.is) c.answer.ensures

pub returns-in-On : goal.returns-in-On
returns-in-On c ms h = usage_run c.args.s.now c.args.w.now c.args.b.now c.args.at c.args.records.now c.args.macros c.requires.2.bytes_small c.empty.ensures c.resolve-c.result c.resolve-c.ensures c.in-Ok.is c.read-q.ensures c.args.list.now c.accept-f.new.ranges c.accept-f.result c.accept-f.ensures c.in-Ok-f.is c.put_first-t.result c.put_first-t.new.list c.args.limit c.args.z c.put_first-t.ensures (outer c.args.file.now c.args.line.now c.args.place) ms h c.args.text.now c.args.map.now c.in-On.is (c.run.ensures ms h)

pub returns-in-Ended : goal.returns-in-Ended
returns-in-Ended c ms h = usage_ended c.args.s.now c.args.w.now c.args.b.now c.args.at c.args.records.now c.args.macros c.requires.2.bytes_small c.empty.ensures c.resolve-c.result c.resolve-c.ensures c.in-Ok.is c.read-q.ensures c.args.list.now c.accept-f.new.ranges c.accept-f.result c.accept-f.ensures c.in-Ok-f.is c.put_first-t.result c.put_first-t.new.list c.args.limit c.args.z c.put_first-t.ensures (outer c.args.file.now c.args.line.now c.args.place) ms h c.args.text.now c.args.map.now c.in-Ended.is c.answer-in-Ended.ensures

pub returns-in-Err-f : goal.returns-in-Err-f
returns-in-Err-f c ms h = usage_barred c.args.s.now c.args.w.now c.args.b.now c.args.at c.args.records.now c.args.macros c.requires.2.bytes_small c.empty.ensures c.resolve-c.result c.resolve-c.ensures c.in-Ok.is c.read-q.ensures c.args.list.now c.accept-f.new.ranges c.accept-f.result c.accept-f.ensures (outer c.args.file.now c.args.line.now c.args.place) ms h c.args.limit c.args.text.now c.args.map.now c.args.z c.in-Err-f.is c.answer-in-Err-f.ensures
