use mathlib.Core.Path.{sym, ◌∙◌}
use borrow.Author.Tests.{not-true, not-false}
use Rattle.macros.proofs.Ranges.{starts_out, starts_none, starts_more}
use Rattle.std.proofs.lemmas.Bool.{not_from_true, not_from_false}
use Rattle.macros.proofs.all_starts.Goals as goal

pub returns-then-not-is_start_at : goal.returns-then-not-is_start_at
returns-then-not-is_start_at c = let a = c.args in sym (starts_none a.s.now a.ranges.now c.loop-i.i c.loop-i-test.true c.is_start_at.ensures (not-true _ (not_from_false _ c.if-not-is_start_at.true))) ∙ c.loop-i.invariant

pub loop-i-preserved : goal.loop-i-preserved
loop-i-preserved c = let a = c.args in sym (starts_more a.s.now a.ranges.now c.loop-i.i c.loop-i-test.true c.is_start_at.ensures (not-false _ (not_from_true _ c.if-not-is_start_at.false))) ∙ c.loop-i.invariant

pub returns : goal.returns
returns c = let a = c.args in sym (starts_out a.s.now a.ranges.now c.loop-i.i c.loop-i-test.false) ∙ c.loop-i.invariant
