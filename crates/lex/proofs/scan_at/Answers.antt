-- `lex::scan_at` meets its contract. The definition branches as the code does.
-- Assumes nothing.
use Rattle.lex.proofs.scan_at.Goals as goal

pub returns-then-ok : goal.returns-then-ok
returns-then-ok c = rw c.if-ok.true

pub returns-else-ok : goal.returns-else-ok
returns-else-ok c = rw c.if-ok.false
