-- `form::push_byte` meets its contract.
-- Assumes nothing.
use mathlib.Core.Logic.{inr}
use native.Mathlib.Omega.{arith}
use Rattle.form.proofs.Pushing.{put_one}
use Rattle.form.proofs.push_byte.Goals as goal

pub returns-then-out-n : goal.returns-then-out-n
returns-then-out-n c = inr (omega arith)

pub returns : goal.returns
returns c = put_one _ _ _ (omega arith)
