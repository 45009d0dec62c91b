-- `pending::file_item` meets its contract.
-- Assumes nothing.
use native.Mathlib.Omega.{arith}
use Rattle.pending.proofs.Seeing.{file_out, file_seen}
use Rattle.pending.proofs.file_item.Goals as goal

pub returns-then-s-i : goal.returns-then-s-i
returns-then-s-i c = λ b l n. file_out _ b l n _ c.if-s-i.true

pub returns : goal.returns
returns c = λ b l n. file_seen _ b l n _ _ _ _ (omega arith) c.in_file.ensures c.token_at-t.ensures c.empty.ensures
