-- `places::quote` meets its contract.
-- Assumes nothing.
use mathlib.Core.Path.{refl}
use lib.ListN.{length}
use Rattle.places.proofs.Filling.{quoted_by}
use Rattle.places.proofs.quote.Goals as goal

pub returns : goal.returns
returns c = (quoted_by c.args.w.now c.args.out.now c.copy_from_slice.new.self (length c.args.w.now) c.requires c.copy_from_slice.ensures.after refl, refl)
