-- `packed::replace` meets its contract.
-- Assumes nothing.
use mathlib.Core.Path.{ap}
use lib.ListN.{set}
use Rattle.packed.proofs.replace.Goals as goal

pub returns : goal.returns
returns c = ap (set c.args.records.now c.args.at) c.numbers_of.ensures
