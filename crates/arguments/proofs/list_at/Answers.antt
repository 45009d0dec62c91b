use Rattle.arguments.proofs.Collecting.{collect_first, collect_end, collect_keep, collect_fail, collect_part, collect_close}
use Rattle.arguments.proofs.list_at.Goals as goal

pub loop-t-init : goal.loop-t-init
loop-t-init c = collect_first c.requires.inside

pub loop-t-preserved-in-Keep : goal.loop-t-preserved-in-Keep
loop-t-preserved-in-Keep c = collect_keep c.loop-t.invariant c.args.s.now c.args.b.now c.in-Some.t (c.in-Some.ensures c.args.b.now) c.in-Keep.ensures c.move_of.auto.stack

pub loop-t-preserved : goal.loop-t-preserved
loop-t-preserved c = collect_part c.loop-t.invariant c.args.s.now c.args.b.now c.in-Some.t (c.in-Some.ensures c.args.b.now) c.note.ensures c.in-Part.ensures c.move_of.auto.stack

pub returns-in-Close : goal.returns-in-Close
returns-in-Close c = collect_close c.loop-t.invariant c.args.s.now c.args.b.now c.in-Some.t (c.in-Some.ensures c.args.b.now) c.note-in-Close.ensures c.in-Close.ensures

pub returns-in-Fail : goal.returns-in-Fail
returns-in-Fail c = collect_fail c.loop-t.invariant c.args.s.now c.args.b.now c.in-Some.t (c.in-Some.ensures c.args.b.now) c.in-Fail.ensures

pub returns : goal.returns
returns c = collect_end c.loop-t.invariant (c.in_default.ensures c.args.b.now)
