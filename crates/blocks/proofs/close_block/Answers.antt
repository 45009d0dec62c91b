-- `blocks::close_block` meets its contract.
-- Assumes nothing.
use mathlib.Core.Path.{refl}
use native.Mathlib.Omega.{arith}
use Rattle.blocks.proofs.Opening.{close_none, close_one, close_taken}
use Rattle.blocks.proofs.close_block.Goals as goal

pub returns-then-n-eq0 : goal.returns-then-n-eq0
returns-then-n-eq0 c = (close_none _ _ c.if-n-eq0.true, refl)

pub returns-then-n-eq1 : goal.returns-then-n-eq1
returns-then-n-eq1 c = close_one _ _ c.if-n-eq1.true c.requires.lent

pub returns : goal.returns
returns c = close_taken _ _ _ _ _ (omega (arith, c.if-n-eq0.false)) (omega (arith, c.if-n-eq0.false, c.if-n-eq1.false)) c.requires.few c.requires.lent c.is_active.ensures
