-- `afresh::start_name` meets its contract. The name is its first byte.
-- Assumes nothing.
use Rattle.afresh.proofs.Feeding.{sound, fed_start}
use Rattle.afresh.proofs.start_name.Goals as goal

pub returns : goal.returns
returns c w h = fed_start _ _ _ (sound c.args.r c.args.name.now w c.requires.0 c.requires.1 h) _ _ _
