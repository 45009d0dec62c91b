-- `lex::is_byte` meets its contract.
-- Assumes nothing.
use Rattle.lex.proofs.is_byte.Goals as goal

pub returns : goal.returns
returns c = rw c.peek.ensures
