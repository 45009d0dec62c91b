-- `steps::defining::undef` meets its contract.
-- Assumes nothing.
use Rattle.steps.proofs.Going.{undef_on, undef_unnamed, undef_barred}
use Rattle.steps.proofs.defining.undef.Goals as goal

pub returns-in-Named : goal.returns-in-Named
returns-in-Named c = let b = c in undef_on _ _ _ _ _ _ b.args.z _ _ _ _ _ _ c.undef_at-f.ensures c.in-Named.is c.part_of.ensures c.behind.ensures c.undefine-n.ensures

pub returns-in-Unnamed : goal.returns-in-Unnamed
returns-in-Unnamed c = undef_unnamed _ _ _ _ c.args.z _ _ c.undef_at-f.ensures c.in-Unnamed.is c.refuse.ensures

pub returns-in-Barred : goal.returns-in-Barred
returns-in-Barred c = undef_barred _ _ _ _ c.args.z _ _ _ _ c.undef_at-f.ensures c.in-Barred.is c.refuse-in-Barred.ensures
