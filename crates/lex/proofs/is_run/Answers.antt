-- `lex::is_run` meets its contract. What it calls gives its parts.
-- Assumes nothing.
use Rattle.lex.proofs.is_run.Goals as goal

pub returns : goal.returns
returns c = rw (c.is_start.ensures, c.is_digit.ensures)
