use mathlib.Core.Path.{sym, ◌∙◌}
use native.Mathlib.Omega.{arith}
use Rattle.storing.proofs.Reading.{token_past}
use Rattle.definition.proofs.Reading.{gap_stop, gap_on, gap_out}
use Rattle.std.proofs.lemmas.Bool.{not_from_true, not_from_false}
use Rattle.definition.proofs.gap_end.Goals as goal

pub returns-then-not-is_gap : goal.returns-then-not-is_gap
returns-then-not-is_gap c = sym (gap_stop _ _ _ _ c.loop-i-test.true c.in_definition.ensures c.token_at-t.ensures _ c.is_gap.ensures (not_from_false _ c.if-not-is_gap.true)) ∙ c.loop-i.invariant

pub loop-i-smaller : goal.loop-i-smaller
loop-i-smaller c = omega (arith, token_past _ _ _ _ c.token_at-t.ensures c.loop-i-test.true)

pub loop-i-preserved : goal.loop-i-preserved
loop-i-preserved c = sym (gap_on _ _ _ _ c.loop-i-test.true c.in_definition.ensures c.token_at-t.ensures _ c.is_gap.ensures (not_from_true _ c.if-not-is_gap.false)) ∙ c.loop-i.invariant

pub returns : goal.returns
returns c = sym (gap_out _ _ c.loop-i-test.false) ∙ c.loop-i.invariant
