-- The outcome of a hand-over that is taken is that of its run.
-- Assumes nothing.
use mathlib.Core.Bool.{true}
use mathlib.Core.Path.{◌≡◌}
use Rattle.handover.specs.Sizes.{HandOver, Rooms, is_sound}
use Rattle.turns.specs.Runs.{ran_over, flattened}

pub taken : (h : HandOver) (r : Rooms) → is_sound h r ≡ true → flattened h r ≡ ran_over h r
unfolding flattened
taken h r e = rw e
