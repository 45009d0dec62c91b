-- `expand::step` meets its contract: a pending token written, or a usage replaced.
-- Assumes nothing.
use mathlib.Core.Path.{refl, sym, ◌∙◌}
use native.Mathlib.Omega.{arith}
use Rattle.expand.specs.Standing.{outer}
use Rattle.expand.proofs.Running.{step_none, step_full, step_wrote, step_replaced}
use Rattle.expand.proofs.step.Goals as goal

pub returns-then-z-eq0 : goal.returns-then-z-eq0
returns-then-z-eq0 c ms h = (step_none (outer c.args.file.now c.args.line.now c.args.place) ms c.args.s.now c.args.b.now c.args.list.now c.args.limit c.args.text.now c.args.map.now c.args.z c.if-z-eq0.true, refl, refl)

pub returns-then-is_usage : goal.returns-then-is_usage
returns-then-is_usage c ms h =
    step_replaced (outer c.args.file.now c.args.line.now c.args.place) ms c.args.s.now c.args.b.now c.args.list.now c.args.limit c.args.text.now c.args.map.now c.args.z c.pend_of-p.result (omega (arith, c.if-z-eq0.false)) c.requires.0.few c.requires.1.list_lent c.pend_of-p.ensures (sym c.is_usage.ensures ∙ c.if-is_usage.true) c.requires.0 c.name_of.ensures c.replace_top.result _ (c.replace_top.ensures ms h)

pub returns-in-Upto : goal.returns-in-Upto
returns-in-Upto c ms h =
    step_wrote (outer c.args.file.now c.args.line.now c.args.place) ms c.args.s.now c.args.b.now c.args.list.now c.args.limit c.args.text.now c.args.map.now c.args.z c.pend_of-p.result (omega (arith, c.if-z-eq0.false)) c.requires.0.few c.requires.1.list_lent c.pend_of-p.ensures (sym c.is_usage.ensures ∙ c.if-is_usage.false) c.in-Upto.is c.write_token-r.ensures c.written_to.ensures

pub returns-in-Full : goal.returns-in-Full
returns-in-Full c ms h =
    step_full (outer c.args.file.now c.args.line.now c.args.place) ms c.args.s.now c.args.b.now c.args.list.now c.args.limit c.args.text.now c.args.map.now c.args.z c.pend_of-p.result (omega (arith, c.if-z-eq0.false)) c.requires.0.few c.requires.1.list_lent c.pend_of-p.ensures (sym c.is_usage.ensures ∙ c.if-is_usage.false) c.in-Full.is c.write_token-r.ensures
