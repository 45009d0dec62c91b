-- `running::end_run` meets its contract.
-- Assumes nothing.
use mathlib.Core.Path.{refl}
use Rattle.running.proofs.Advancing.{run_ended, run_open}
use Rattle.running.proofs.end_run.Goals as goal

pub returns-then-n-eq0 : goal.returns-then-n-eq0
returns-then-n-eq0 c = run_ended _ c.args.z c.if-n-eq0.true

pub returns : goal.returns
returns c = run_open _ c.args.z _ c.if-n-eq0.false c.requires refl
