-- `steps::defining::define` meets its contract.
-- Assumes nothing.
use Rattle.steps.proofs.Writing.{define_done, define_barred, define_bad, define_full}
use Rattle.steps.proofs.defining.define.Goals as goal

pub returns-in-Done : goal.returns-in-Done
returns-in-Done c store table set limit tx mp fr cd here x ms fixed ok held = define_done limit ms fixed here ok held (c.define_at-r.ensures ms held) c.in-Done.is c.behind.ensures

pub returns-in-Barred : goal.returns-in-Barred
returns-in-Barred c store table set limit tx mp fr cd here x ms fixed ok held = define_barred limit ms fixed here ok held (c.define_at-r.ensures ms held) c.in-Barred.is c.refuse.ensures

pub returns-in-Bad : goal.returns-in-Bad
returns-in-Bad c store table set limit tx mp fr cd here x ms fixed ok held = define_bad limit ms fixed here ok held (c.define_at-r.ensures ms held) c.in-Bad.is c.refuse-in-Bad.ensures

pub returns-in-NoRoom : goal.returns-in-NoRoom
returns-in-NoRoom c store table set limit tx mp fr cd here x ms fixed ok held = define_full limit ms fixed here ok held (c.define_at-r.ensures ms held) c.in-NoRoom.is c.refuse-in-NoRoom.ensures
