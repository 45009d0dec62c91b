-- `steps::putting::write_word` meets its contract.
-- Assumes nothing.
use Rattle.steps.proofs.Writing.{spot_reads, word_upto, word_full}
use Rattle.steps.proofs.putting.write_word.Goals as goal

pub behind-requires : goal.behind-requires
behind-requires c = spot_reads c.args.s.now c.args.z c.with_spot.result _ c.requires.3 c.with_spot.ensures

pub returns-in-Upto : goal.returns-in-Upto
returns-in-Upto c store table set limit bs rs fr cd here x ms fixed ok held = word_upto limit ms fixed here ok held _ _ c.place_of.ensures c.args.w.now c.write_whole-r.ensures c.in-Upto.is c.with_spot.ensures c.behind.ensures

pub returns-in-Full : goal.returns-in-Full
returns-in-Full c store table set limit bs rs fr cd here x ms fixed ok held = word_full limit ms fixed here ok held _ _ c.place_of.ensures c.args.w.now c.write_whole-r.ensures c.in-Full.is c.refuse.ensures
