-- `lex::is_legal` meets its contract. What it calls gives its parts.
-- Assumes nothing.
use Rattle.lex.proofs.is_legal.Goals as goal

pub returns : goal.returns
returns c = rw c.is_space.ensures
