-- `copying::past_byte` meets its contract.
-- Assumes nothing.
use borrow.Author.Tests.{eq-eqb, ne_eqb}
use Rattle.copying.proofs.past_byte.Goals as goal

pub returns-then-b-eq10 : goal.returns-then-b-eq10
returns-then-b-eq10 c = rw (eq-eqb _ _ c.if-b-eq10.true) c.past_newline.ensures

pub returns : goal.returns
returns c = rw (ne_eqb _ _ c.if-b-eq10.false, c.is_white.ensures)
