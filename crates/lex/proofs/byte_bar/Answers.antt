-- `lex::byte_bar` meets its contract. The definition branches as the code does.
-- Assumes nothing.
use Rattle.lex.proofs.byte_bar.Goals as goal

pub returns-then-is_legal : goal.returns-then-is_legal
returns-then-is_legal c = rw (← c.is_legal.ensures, c.if-is_legal.true)

pub returns-else-is_legal : goal.returns-else-is_legal
returns-else-is_legal c = rw (← c.is_legal.ensures, c.if-is_legal.false)
