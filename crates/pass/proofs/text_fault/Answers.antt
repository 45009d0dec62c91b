use mathlib.Core.Path.{sym, ap, ◌∙◌}
use native.Mathlib.Omega.{arith}
use Rattle.std.proofs.lemmas.Result.{err_from_is_err_and}
use Rattle.pass.specs.Judging.{verdict_of}
use Rattle.pass.proofs.Faults.{text_good, text_bad, text_end}
use Rattle.pass.proofs.text_fault.Goals as goal

pub loop-k-preserved : goal.loop-k-preserved
loop-k-preserved c = (
  omega arith,
  c.token_fault.auto.ranges ∙ c.loop-k.invariant.1,
  c.token_fault.auto.stack ∙ c.loop-k.invariant.2,
  λ ms h. c.loop-k.invariant.3 ms h ∙ text_good c.args.b.now c.args.list.now c.args.n c.loop-k.k ms c.loop-k-test.true (λ p ps e. c.token_fault.ensures ms p ps h e) c.in_ok-token_fault.was,
)

pub returns-in_err-token_fault : goal.returns-in_err-token_fault
returns-in_err-token_fault c ms h =
    let p = err_from_is_err_and c.from_residual.result c.from_residual.ensures.1 in
    rw (p.1, p.2)
    (sym (ap verdict_of (c.loop-k.invariant.3 ms h ∙ text_bad c.args.b.now c.args.list.now c.args.n c.loop-k.k ms c.loop-k-test.true (λ p ps e. c.token_fault.ensures ms p ps h e) _ c.in_err-token_fault.was)))

pub returns : goal.returns
returns c ms h =
    let a = c.args in
    sym (ap verdict_of (c.loop-k.invariant.3 ms h ∙ text_end a.b.now a.list.now a.n c.loop-k.k ms c.loop-k.invariant.0 c.loop-k-test.false))
