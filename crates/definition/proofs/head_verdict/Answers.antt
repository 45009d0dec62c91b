-- `definition::head_verdict` meets its contract. Without a list there are no formals.
-- Assumes nothing.
use borrow.Author.Tests.{not-true, not-false}
use Rattle.definition.proofs.Verdicts.{answered}
use Rattle.definition.proofs.Scanning.{bad_none}
use Rattle.definition.proofs.Defining.{unlisted_none, listed_formals}
use Rattle.definition.proofs.head_verdict.Goals as goal

pub returns-then-not-h : goal.returns-then-not-h
returns-then-not-h c fs x p u = let a = c.args in answered (bad_none a.s.now (unlisted_none a.s.now a.h p (not-true _ c.if-not-h.true)))

pub returns : goal.returns
returns c fs x p u = let a = c.args in c.formals_verdict.ensures fs x (listed_formals a.s.now a.h p (not-false _ c.if-not-h.false)) u
