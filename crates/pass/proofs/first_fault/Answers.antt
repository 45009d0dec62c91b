use mathlib.Core.Path.{refl, sym, ap, ◌∙◌}
use Rattle.pass.specs.Answer.{answer_of}
use Rattle.pass.proofs.Macros.{pass_next, pass_here, pass_all, pass_end}
use Rattle.pass.proofs.first_fault.Goals as goal

pub loop-i-init : goal.loop-i-init
loop-i-init c = (refl, refl, refl, λ ms h s. pass_all h)

pub loop-i-preserved : goal.loop-i-preserved
loop-i-preserved c = (
  c.macro_fault.auto.list ∙ c.loop-i.invariant.0,
  c.macro_fault.auto.ranges ∙ c.loop-i.invariant.1,
  c.macro_fault.auto.stack ∙ c.loop-i.invariant.2,
  λ ms h s. c.loop-i.invariant.3 ms h s ∙ pass_next ms c.args.rows.now c.loop-i.i c.args.macros c.loop-i-test.true (s c.loop-i.i c.loop-i-test.true) (c.macro_fault.ensures ms h) c.in_default.is,
)

pub returns-in-Err : goal.returns-in-Err
returns-in-Err c ms h s = sym (ap answer_of (c.loop-i.invariant.3 ms h s ∙ pass_here ms c.args.rows.now c.loop-i.i c.args.macros c.loop-i-test.true (s c.loop-i.i c.loop-i-test.true) (c.macro_fault.ensures ms h) _ c.in-Err.is))

pub returns : goal.returns
returns c ms h s = sym (ap answer_of (c.loop-i.invariant.3 ms h s ∙ pass_end ms c.loop-i.i c.args.macros c.loop-i-test.false))
