-- `directive::word_at` meets its contract. The definition branches as the code does.
-- Assumes nothing.
use borrow.Author.Tests.{eq-eqb, ne_eqb}
use Rattle.directive.specs.Words.{word_at}
use Rattle.directive.proofs.word_at.Goals as goal

pub returns-then-t-ne0 : goal.returns-then-t-ne0
unfolding word_at
returns-then-t-ne0 c = rw (← c.word_start.ensures, ← c.in_file.ensures, ← c.token_at-t.ensures, ne_eqb _ _ c.if-t-ne0.true)

pub returns-then-t-is_gap : goal.returns-then-t-is_gap
unfolding word_at
returns-then-t-is_gap c = rw (← c.word_start.ensures, ← c.in_file.ensures, ← c.token_at-t.ensures, eq-eqb _ _ c.if-t-ne0.false, ← c.is_gap.ensures, c.if-t-is_gap.true)

pub returns : goal.returns
unfolding word_at
returns c = rw (← c.word_start.ensures, ← c.in_file.ensures, ← c.token_at-t.ensures, eq-eqb _ _ c.if-t-ne0.false, ← c.is_gap.ensures, c.if-t-is_gap.false)
