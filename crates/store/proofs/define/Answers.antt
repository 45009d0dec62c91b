-- `store::define` meets its contract: the name at the front of the form finds the place.
-- Assumes nothing.
use Rattle.std.proofs.Common.{Ok, Err}
use Rattle.store.proofs.Places.{found_below}
use Rattle.store.proofs.Replacing.{missing_place, define_found}
use Rattle.store.proofs.define.Goals as goal

pub redefine-requires : goal.redefine-requires
redefine-requires c = (found_below c.part_of.result.now c.requires.stored.holds (c.find.ensures c.requires.stored.macros c.requires.stored.holds) _ c.in-Ok.is, c.requires)

pub define_new-requires : goal.define_new-requires
define_new-requires c = (missing_place c.requires.stored.holds c.part_of.result.now (c.find.ensures c.requires.stored.macros c.requires.stored.holds) c.in-Err.is, c.requires)

pub returns-in-Ok : goal.returns-in-Ok
returns-in-Ok c ms m h g = define_found g c.part_of.ensures (c.find.ensures ms h) (Ok c.in-Ok.i) c.in-Ok.is (c.redefine.ensures ms m h g)

pub returns-in-Err : goal.returns-in-Err
returns-in-Err c ms m h g = define_found g c.part_of.ensures (c.find.ensures ms h) (Err c.in-Err.i) c.in-Err.is (c.define_new.ensures ms m h g)
