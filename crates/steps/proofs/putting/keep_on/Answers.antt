-- `steps::putting::keep_on` meets its contract.
-- Assumes nothing.
use Rattle.steps.proofs.Writing.{spot_reads, keep_to, keep_refused}
use Rattle.steps.proofs.putting.keep_on.Goals as goal

pub behind-requires : goal.behind-requires
behind-requires c = spot_reads c.args.s.now c.args.z c.with_spot.result _ c.requires.3 c.with_spot.ensures

pub returns-in-Ok : goal.returns-in-Ok
returns-in-Ok c store table limit bs rs fr cd here x ms fixed ok held = keep_to limit ms fixed here ok held _ _ c.place_of.ensures c.args.d c.keep-r.ensures c.in-Ok.is c.with_spot.ensures c.behind.ensures

pub returns-in-Err : goal.returns-in-Err
returns-in-Err c store table limit bs rs fr cd here x ms fixed ok held = keep_refused limit ms fixed here ok held _ _ c.place_of.ensures c.args.d c.keep-r.ensures c.in-Err.is c.refuse.ensures
