-- `lex::named` meets its contract. What it calls gives its parts.
-- Assumes nothing.
use Rattle.lex.proofs.named.Goals as goal

pub returns : goal.returns
returns c = rw c.name_bar.ensures
