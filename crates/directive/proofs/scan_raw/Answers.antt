use mathlib.Core.Path.{refl, sym, ap, ◌∙◌}
use Rattle.lex.specs.declared.Scan.{Scan}
use Rattle.std.proofs.Common.{Some}
use Rattle.directive.specs.Include.{raw_end}
use Rattle.directive.proofs.Including.{raw_closed, raw_newline, raw_on, raw_out}
use Rattle.directive.proofs.scan_raw.Goals as goal

pub loop-i-init : goal.loop-i-init
unfolding raw_end
loop-i-init c = refl

pub returns-then-b-eq62 : goal.returns-then-b-eq62
returns-then-b-eq62 c = ap (λ (r : Scan). Some (c.loop-i.i, r.bar)) c.scan_at-r.ensures ∙ sym (raw_closed _ _ _ c.loop-i-test.true c.if-b-eq62.true) ∙ c.loop-i.invariant

pub returns-then-b-eq10 : goal.returns-then-b-eq10
returns-then-b-eq10 c = sym (raw_newline _ _ _ c.loop-i-test.true c.if-b-eq62.false c.if-b-eq10.true) ∙ c.loop-i.invariant

pub loop-i-preserved : goal.loop-i-preserved
loop-i-preserved c = rw c.is_legal-ok.ensures (sym (raw_on _ _ _ c.loop-i-test.true c.if-b-eq62.false c.if-b-eq10.false) ∙ c.loop-i.invariant)

pub returns : goal.returns
returns c = sym (raw_out _ _ _ c.loop-i-test.false) ∙ c.loop-i.invariant
