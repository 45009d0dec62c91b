use Rattle.expand.proofs.Running.{kept_more, runs_more, runs_all}
use Rattle.expand.proofs.run.Goals as goal

pub loop-y-preserved : goal.loop-y-preserved
loop-y-preserved c = (
  kept_more c.loop-y.invariant.0 c.step-r.auto.list c.step-r.auto.out c.step-r.auto.ranges c.step-r.auto.stack c.step-r.auto.work c.step-r.auto.text c.step-r.auto.map,
  runs_more c.loop-y.invariant.1 c.step-r.result c.step-r.new.list c.step-r.new.text c.step-r.new.map c.requires.1.stored c.in-On.is c.step-r.ensures,
)

pub returns-in-Ended : goal.returns-in-Ended
returns-in-Ended c ms h = runs_all c.loop-y.invariant.1 c.step-r.result c.step-r.new.list c.step-r.new.text c.step-r.new.map c.in-Ended.is c.answer.ensures ms h (c.step-r.ensures ms h)
