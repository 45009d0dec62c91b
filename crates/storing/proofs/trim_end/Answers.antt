use mathlib.Core.Path.{sym, ◌∙◌}
use borrow.Author.Tests.{not-true, not-false}
use Rattle.storing.proofs.Trimming.{trimming_solid, trimming_next, trimming_end}
use Rattle.std.proofs.lemmas.Bool.{not_from_true, not_from_false}
use Rattle.storing.proofs.trim_end.Goals as goal

pub returns-then-not-is_space : goal.returns-then-not-is_space
returns-then-not-is_space c = trimming_solid c.loop-k.invariant c.loop-k-test.true (sym c.is_space.ensures ∙ not-true _ (not_from_false _ c.if-not-is_space.true))

pub loop-k-preserved : goal.loop-k-preserved
loop-k-preserved c = trimming_next c.loop-k.invariant c.loop-k-test.true (sym c.is_space.ensures ∙ not-false _ (not_from_true _ c.if-not-is_space.false))

pub returns : goal.returns
returns c = trimming_end c.loop-k.invariant c.loop-k-test.false
