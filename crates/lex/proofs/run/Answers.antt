use mathlib.Core.Path.{sym, ◌∙◌}
use mathlib.Core.Path.{◌≡◌}
use native.Mathlib.Omega.{arith}
use Rattle.lex.proofs.Scanning.{run_stop, run_more, run_out}
use Rattle.std.proofs.lemmas.Bool.{not_from_true, not_from_false}
use Rattle.lex.proofs.run.Goals as goal

pub returns-then-not-is_run : goal.returns-then-not-is_run
returns-then-not-is_run c = sym (run_stop _ _ _ c.loop-i-test.true c.is_run.ensures (not_from_false _ c.if-not-is_run.true)) ∙ c.loop-i.invariant.1

pub loop-i-preserved : goal.loop-i-preserved
loop-i-preserved c = (omega arith, sym (run_more _ _ _ c.loop-i-test.true c.is_run.ensures (not_from_true _ c.if-not-is_run.false)) ∙ c.loop-i.invariant.1)

pub returns : goal.returns
returns c =
    let k : c.max.result ≡ c.loop-i.i = omega arith in
    k ∙ sym (run_out _ _ _ c.loop-i-test.false) ∙ c.loop-i.invariant.1
