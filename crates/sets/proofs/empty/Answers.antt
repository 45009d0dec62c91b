-- `sets::empty` meets its contract: of 0 no bit is set.
-- Assumes nothing.
use mathlib.Core.Path.{refl}
use Rattle.sets.specs.Sets.{members, value, bits_of}
use Rattle.sets.proofs.empty.Goals as goal

pub returns : goal.returns
unfolding members value bits_of
returns c = refl
