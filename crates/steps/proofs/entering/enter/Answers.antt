-- `steps::entering::enter` meets its contract.
-- Assumes nothing.
use Rattle.steps.proofs.Frames.{enter_on, enter_refused}
use Rattle.steps.proofs.entering.enter.Goals as goal

pub returns-in-Ok : goal.returns-in-Ok
returns-in-Ok c = enter_on _ _ _ _ _ c.args.z _ _ _ _ _ c.include-r.ensures c.in-Ok.is c.behind-y.ensures c.entered.ensures

pub returns-in-Err : goal.returns-in-Err
returns-in-Err c = enter_refused _ _ _ _ _ c.args.z _ _ _ c.include-r.ensures c.in-Err.is c.refuse.ensures
