-- `pending::list_item` meets its contract.
-- Assumes nothing.
use native.Mathlib.Omega.{arith}
use Rattle.pending.proofs.Seeing.{list_out, list_seen}
use Rattle.pending.proofs.list_item.Goals as goal

pub returns-then-n-i : goal.returns-then-n-i
returns-then-n-i c = λ s b. list_out s b _ _ _ c.if-n-i.true

pub returns : goal.returns
returns c = λ s b. list_seen s b _ _ _ _ (omega arith) (omega arith) c.pend_of.ensures
