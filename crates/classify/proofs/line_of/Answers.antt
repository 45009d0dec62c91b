-- `classify::line_of` meets its contract. The definition branches as the code does.
-- Assumes nothing.
use borrow.Author.Tests.{le-leb, lt-leb}
use Rattle.classify.specs.Answer.{refused_line}
use Rattle.classify.proofs.line_of.Goals as goal

pub returns-then-number-le1 : goal.returns-then-number-le1
unfolding refused_line
returns-then-number-le1 c = rw (le-leb _ _ c.if-number-le1.true)

pub returns : goal.returns
unfolding refused_line
returns c = rw (lt-leb _ _ c.if-number-le1.false) c.line_at.ensures
