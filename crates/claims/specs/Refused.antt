-- Where a hand-over is refused, and by which numbers.
-- Assumes nothing.
use Rattle.std.specs.Prelude.{◌<◌, ◌≤◌, ◌≡◌, length}
use Rattle.places.specs.Places.{line_at}
use Rattle.handover.specs.Entries.{body_of}
use Rattle.handover.specs.Sizes.{HandOver}
use Rattle.turns.specs.Runs.{Outcome}

-- a place in a file of the hand-over: a byte of it or its end, with its line
pub record PlacedIn (h : HandOver) (o : Outcome) : Type 0 where
  pub file_in : o.file < length h.table
  pub inside : o.byte ≤ length (body_of h.store h.table o.file)
  pub line_is : o.line ≡ line_at (body_of h.store h.table o.file) o.byte

-- the refusals of a hand-over that is taken: 2 to 20
pub record NumberedIn (o : Outcome) : Type 0 where
  pub least : 2 ≤ o.number
  pub most : o.number ≤ 20
