-- `steps::defining::hide` meets its contract.
-- Assumes nothing.
use Rattle.steps.proofs.Writing.{hide_barred, hide_to}
use Rattle.steps.proofs.defining.hide.Goals as goal

pub returns-in-Err : goal.returns-in-Err
returns-in-Err c bs rs store table set limit tx mp fr cd here x ms fixed ok held = hide_barred limit ms fixed here ok held c.hidden_at-r.ensures c.in-Err.is c.refuse.ensures

pub returns-in-Ok : goal.returns-in-Ok
returns-in-Ok c bs rs store table set limit tx mp fr cd here x ms fixed ok held = hide_to limit ms fixed here ok held c.hidden_at-r.ensures c.in-Ok.is c.behind.ensures
