-- `blocks::open_block` meets its contract.
-- Assumes nothing.
use mathlib.Core.Path.{refl}
use native.Mathlib.Omega.{arith}
use Rattle.blocks.proofs.Opening.{flag_from, open_refused, open_taken}
use Rattle.blocks.proofs.open_block.Goals as goal

pub returns-then-n-ge32 : goal.returns-then-n-ge32
returns-then-n-ge32 c = (open_refused _ c.args.z.open _ _ _ (omega (arith, c.if-n-ge32.true)), refl)

pub returns : goal.returns
returns c = open_taken _ c.args.z _ _ _ _ _ _ c.requires (omega (arith, c.if-n-ge32.false)) (flag_from _ c.from.ensures) (flag_from _ c.from-2.ensures) (flag_from _ c.from-3.ensures)
