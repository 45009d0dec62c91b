use mathlib.Core.Path.{◌≡◌, refl, ap, sym, ◌∙◌}
use native.Mathlib.Omega.{arith}
use Rattle.lex.specs.Scans.{scan, span_end}
use Rattle.lex.proofs.Scanning.{span_stop, span_halt, span_more, span_out}
use Rattle.std.proofs.lemmas.Bool.{not_from_true, not_from_false}
use Rattle.lex.proofs.scan_span.Goals as goal

pub loop-i-init : goal.loop-i-init
unfolding span_end
loop-i-init c = (omega arith, refl)

pub returns-then-not-is_span : goal.returns-then-not-is_span
returns-then-not-is_span c = c.scan_at.ensures ∙ (sym (span_stop _ _ _ _ _ c.loop-i-test.true c.is_span.ensures (not_from_false _ c.if-not-is_span.true)) ∙ c.loop-i.invariant.1)

pub returns-then-stops-b : goal.returns-then-stops-b
returns-then-stops-b c = c.scan_at-then-stops-b.ensures ∙ (sym (span_halt _ _ _ _ _ c.loop-i-test.true c.is_span.ensures (not_from_true _ c.if-not-is_span.false) c.peek.ensures c.if-stops-b.true) ∙ c.loop-i.invariant.1)

pub loop-i-preserved : goal.loop-i-preserved
loop-i-preserved c = (omega arith, sym (span_more _ _ _ _ _ c.loop-i-test.true c.is_span.ensures (not_from_true _ c.if-not-is_span.false) c.peek.ensures c.if-stops-b.false c.is_legal-ok.ensures) ∙ c.loop-i.invariant.1)

pub returns : goal.returns
returns c =
    let k : c.max.result ≡ c.loop-i.i = omega arith in
    c.scan_at-2.ensures ∙ (ap (λ n. scan n c.loop-i.ok 0) k ∙ (sym (span_out _ _ _ _ _ c.loop-i-test.false) ∙ c.loop-i.invariant.1))
