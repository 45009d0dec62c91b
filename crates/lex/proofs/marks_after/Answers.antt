-- `lex::marks_after` meets its contract.
-- Assumes nothing.
use Rattle.lex.specs.Tokens.{marks_after}
use borrow.Author.Tests.{eq-eqb, ne_eqb}
use Rattle.lex.proofs.marks_after.Goals as goal

pub returns-then-t-eq-QUOTE : goal.returns-then-t-eq-QUOTE
unfolding marks_after
returns-then-t-eq-QUOTE c = simp (eq-eqb _ _ c.if-t-eq-QUOTE.true)

pub returns-else-t-eq-QUOTE : goal.returns-else-t-eq-QUOTE
unfolding marks_after
returns-else-t-eq-QUOTE c = simp (ne_eqb _ _ c.if-t-eq-QUOTE.false)
