-- `genuine::is_trimmed` meets its contract.
-- Assumes nothing.
use Rattle.genuine.proofs.Trimmed.{trimmed_none, trimmed_no, trimmed_last}
use Rattle.genuine.proofs.is_trimmed.Goals as goal

pub returns-then-w-eq0 : goal.returns-then-w-eq0
returns-then-w-eq0 c = search trimmed_none

pub returns-then-is_space : goal.returns-then-is_space
returns-then-is_space c = search trimmed_no

pub returns : goal.returns
returns c = search trimmed_last
