use mathlib.Core.Path.{◌≡◌, refl, ap, sym, ◌∙◌}
use native.Mathlib.Omega.{arith}
use Rattle.lex.specs.Scans.{scan, block_end}
use Rattle.lex.proofs.Scanning.{block_close, block_more, block_out}
use Rattle.lex.proofs.scan_block.Goals as goal

pub loop-i-init : goal.loop-i-init
unfolding block_end
loop-i-init c = (omega arith, refl)

pub returns-then-star-b : goal.returns-then-star-b
returns-then-star-b c = c.scan_at.ensures ∙ (sym (block_close _ _ _ _ c.loop-i-test.true c.if-star-b.true) ∙ c.loop-i.invariant.1)

pub loop-i-preserved : goal.loop-i-preserved
loop-i-preserved c = (omega arith, sym (block_more _ _ _ _ c.loop-i-test.true c.if-star-b.false c.is_legal-ok.ensures) ∙ c.loop-i.invariant.1)

pub returns : goal.returns
returns c =
    let k : c.max.result ≡ c.loop-i.i = omega arith in
    c.scan_at-2.ensures ∙ (ap (λ n. scan n c.loop-i.ok 3) k ∙ (sym (block_out _ _ _ _ c.loop-i-test.false) ∙ c.loop-i.invariant.1))
