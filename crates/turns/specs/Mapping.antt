-- Where the numbers of a map lead.
-- Assumes nothing.
use Rattle.std.specs.Prelude.{ℕ, ◌<◌, ◌≤◌, List, [], ◌∷◌, ◌≡◌, length}
use Rattle.places.specs.Places.{line_at, place_of}
use Rattle.handover.specs.Entries.{body_of}
use Rattle.turns.specs.States.{Context}

-- a place of a line of a file
pub record InFile (x : Context) (p : ℕ) : Type 0 where
  pub file : ℕ
  pub line : ℕ
  pub place_is : p ≡ place_of file line
  pub file_in : file < length x.table
  pub first : 1 ≤ line
  pub last : line ≤ line_at (body_of x.store x.table file) (length (body_of x.store x.table file))

unfoldable pub All : (ℕ → Type 0) → List ℕ → Type 0
All P [] = Unit {0}
All P (n ∷ ns) = P n × All P ns
