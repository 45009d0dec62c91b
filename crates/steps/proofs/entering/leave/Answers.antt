-- `steps::entering::leave` meets its contract.
-- Assumes nothing.
use mathlib.Core.Path.{refl}
use Rattle.steps.proofs.Frames.{leave_last, leave_outer}
use Rattle.steps.proofs.entering.leave.Goals as goal

pub returns-then-n-eq0 : goal.returns-then-n-eq0
returns-then-n-eq0 c = leave_last _ c.args.z _ refl c.if-n-eq0.true

pub returns : goal.returns
returns c = leave_outer _ c.args.z _ _ refl c.if-n-eq0.false refl
