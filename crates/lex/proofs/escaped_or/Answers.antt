-- `lex::escaped_or` meets its contract. The definition branches as the code does.
-- Assumes nothing.
use borrow.Author.Tests.{eq-eqb, ne_eqb}
use Rattle.lex.proofs.escaped_or.Goals as goal

pub returns-then-r-from : goal.returns-then-r-from
returns-then-r-from c = rw (eq-eqb _ _ c.if-r-from.true) c.plain.ensures

pub returns : goal.returns
returns c = rw (ne_eqb _ _ c.if-r-from.false) c.named.ensures
