-- `definition::default_verdict` meets its contract. A default without a grave accent is judged as it is stored.
-- Assumes nothing.
use mathlib.Core.Path.{ap}
use borrow.Author.Tests.{not-true, not-false}
use Rattle.brackets.proofs.Settling.{settled_as}
use Rattle.afresh.specs.Feeding.{verdict_of}
use Rattle.definition.proofs.Verdicts.{answered, plain_formal, grave_formal, stored_formal}
use Rattle.definition.proofs.default_verdict.Goals as goal

pub returns-then-not-f : goal.returns-then-not-f
returns-then-not-f c u = answered (plain_formal _ _ (not-true _ c.if-not-f.true))

pub returns-then-has_grave : goal.returns-then-has_grave
returns-then-has_grave c u = answered (grave_formal _ _ (not-false _ c.if-not-f.false) _ c.has_grave.ensures c.if-has_grave.true)

pub returns : goal.returns
returns c u = settled_as (ap verdict_of (stored_formal _ _ (not-false _ c.if-not-f.false) _ c.has_grave.ensures c.if-has_grave.false u)) c.judge_stored.ensures
