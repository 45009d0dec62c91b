use mathlib.Core.Path.{◌≡◌, refl, ap, sym, ◌∙◌}
use native.Mathlib.Omega.{arith}
use Rattle.lex.specs.Scans.{scan, string_end}
use Rattle.lex.proofs.Scanning.{string_escaped, string_close, string_newline, string_more, string_out}
use Rattle.lex.proofs.scan_string.Goals as goal

pub loop-i-init : goal.loop-i-init
unfolding string_end
loop-i-init c = (omega arith, refl)

pub loop-i-preserved-then-escaped : goal.loop-i-preserved-then-escaped
loop-i-preserved-then-escaped c = (omega arith, sym (string_escaped _ _ _ _ c.loop-i-test.true c.if-escaped.true c.is_legal-ok.ensures) ∙ c.loop-i.invariant.1)

pub returns-then-b-eq34 : goal.returns-then-b-eq34
returns-then-b-eq34 c = c.scan_at.ensures ∙ (sym (string_close _ _ _ _ c.loop-i-test.true c.if-escaped.false c.if-b-eq34.true) ∙ c.loop-i.invariant.1)

pub returns-then-b-eq10 : goal.returns-then-b-eq10
returns-then-b-eq10 c = c.scan_at-then-b-eq10.ensures ∙ (sym (string_newline _ _ _ _ c.loop-i-test.true c.if-escaped.false c.if-b-eq34.false c.if-b-eq10.true) ∙ c.loop-i.invariant.1)

pub loop-i-preserved : goal.loop-i-preserved
loop-i-preserved c = (omega arith, sym (string_more _ _ _ _ c.loop-i-test.true c.if-escaped.false c.if-b-eq34.false c.if-b-eq10.false c.is_legal-ok-in-loop-i.ensures) ∙ c.loop-i.invariant.1)

pub returns : goal.returns
returns c =
    let k : c.max.result ≡ c.loop-i.i = omega arith in
    c.scan_at-2.ensures ∙ (ap (λ n. scan n c.loop-i.ok 3) k ∙ (sym (string_out _ _ _ _ c.loop-i-test.false) ∙ c.loop-i.invariant.1))
