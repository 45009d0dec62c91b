-- `definition::formal_verdict` meets its contract. The default comes first; behind a last formal there is none with its name.
-- Assumes nothing.
use mathlib.Core.Path.{ap, sym, ◌∙◌}
use native.Mathlib.Omega.{arith}
use Rattle.brackets.specs.Stacks.{over}
use Rattle.brackets.proofs.Settling.{settled_as, settled_lent}
use Rattle.afresh.specs.Feeding.{verdict_of}
use Rattle.definition.proofs.Verdicts.{or_first, or_next, told, told_short, answered}
use Rattle.definition.proofs.Scanning.{none_behind, some_behind, named_none}
use Rattle.definition.proofs.formal_verdict.Goals as goal

pub returns-in_err-default_verdict : goal.returns-in_err-default_verdict
returns-in_err-default_verdict c fs e p u = over c.from_residual.ensures (told_short (c.in_err-default_verdict.ensures u))

pub returns-then-branch : goal.returns-then-branch
returns-then-branch c fs e p u = answered (or_first _ _ (told (c.in_ok-default_verdict.ensures u) ∙ c.if-branch.true))

pub returns-then-f : goal.returns-then-f
returns-then-f c fs e p u = answered (or_next _ _ (told (c.in_ok-default_verdict.ensures u) ∙ c.if-branch.false) ∙ named_none _ _ (none_behind _ _ p c.if-f.true))

pub returns : goal.returns
returns c fs e p u = settled_as (ap verdict_of (sym (or_next _ _ (told (c.in_ok-default_verdict.ensures u) ∙ c.if-branch.false)))) (settled_lent (omega arith) (c.named_later.ensures fs e (some_behind _ _ p c.if-f.false)))
