-- `afresh::read_single` meets its contract. In a default, by the step among the brackets.
-- Assumes nothing.
use Rattle.std.specs.Prelude.{None}
use Rattle.afresh.proofs.Feeding.{sound}
use Rattle.afresh.proofs.Singles.{single_text, single_on, single_done, single_torn, single_short}
use Rattle.afresh.proofs.read_single.Goals as goal

pub returns-then-r : goal.returns-then-r
returns-then-r c n l k = single_text c.args.r c.args.b n c.args.stack.now (sound c.args.r n c.args.stack.now l k c.requires) c.at_state.result c.if-r.true c.at_state.ensures

pub returns-in-On : goal.returns-in-On
returns-in-On c n l k = single_on c.args.r c.args.b n c.args.stack.now (sound c.args.r n c.args.stack.now l k c.requires) c.with_depth.result c.if-r.false c.step-p.new.stack c.step-p.result c.step-p.ensures _ c.in-On.is c.step-p.auto.stack c.with_depth.ensures

pub returns-in-Done : goal.returns-in-Done
returns-in-Done c n l k = single_done c.args.r c.args.b n c.args.stack.now (sound c.args.r n c.args.stack.now l k c.requires) c.at_state-in-Done.result c.if-r.false c.step-p.new.stack c.step-p.result c.step-p.ensures c.in-Done.is c.at_state-in-Done.ensures

pub returns-in-Torn : goal.returns-in-Torn
returns-in-Torn c n l k = single_torn c.args.r c.args.b n c.args.stack.now (sound c.args.r n c.args.stack.now l k c.requires) c.at_state-in-Torn.result c.if-r.false c.step-p.new.stack c.step-p.result c.step-p.ensures c.in-Torn.is c.at_state-in-Torn.ensures

pub returns-in-Short : goal.returns-in-Short
returns-in-Short c n l k = single_short c.args.r c.args.b n c.args.stack.now (sound c.args.r n c.args.stack.now l k c.requires) None c.if-r.false c.step-p.new.stack c.step-p.result c.step-p.ensures c.in-Short.is
