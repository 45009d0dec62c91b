-- `blocks::next_block` meets its contract.
-- Assumes nothing.
use mathlib.Core.Path.{refl}
use native.Mathlib.Omega.{arith}
use Rattle.blocks.proofs.Opening.{flag_from, next_none, next_last, next_taken}
use Rattle.blocks.proofs.next_block.Goals as goal

pub returns-then-n-eq0 : goal.returns-then-n-eq0
returns-then-n-eq0 c = (next_none _ _ _ _ c.if-n-eq0.true, refl)

pub returns-then-v-eq1 : goal.returns-then-v-eq1
returns-then-v-eq1 c = (next_last _ _ _ _ _ (omega (arith, c.if-n-eq0.false)) (omega (arith, c.requires)) c.if-v-eq1.true, refl)

pub returns : goal.returns
returns c = next_taken _ _ _ _ _ _ _ _ _ (omega (arith, c.if-n-eq0.false)) c.requires.few c.requires.lent c.if-v-eq1.false refl (flag_from _ c.from.ensures) (flag_from _ c.from-2.ensures) (flag_from _ c.from-3.ensures)
