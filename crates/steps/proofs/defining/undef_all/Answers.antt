-- `steps::defining::undef_all` meets its contract.
-- Assumes nothing.
use Rattle.steps.proofs.Going.{undef_all_on}
use Rattle.steps.proofs.defining.undef_all.Goals as goal

pub returns : goal.returns
returns c = undef_all_on _ _ _ _ _ _ c.args.z _ c.behind.ensures c.undefine_all.ensures
