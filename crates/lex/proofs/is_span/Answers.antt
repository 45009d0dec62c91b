-- `lex::is_span` meets its contract. What it calls gives its parts.
-- Assumes nothing.
use Rattle.lex.proofs.is_span.Goals as goal

pub returns : goal.returns
returns c = rw c.is_white.ensures
