-- With larger rooms for text and map the outcome only grows.
-- Assumes nothing.
use Rattle.std.specs.Prelude.{ℕ, ◌≤◌, Bool, false, ◌||◌, List, ◌++◌, ◌≡◌, eqb}
use Rattle.handover.specs.Sizes.{Rooms}
use Rattle.turns.specs.Runs.{Outcome}

-- r' is as large or larger for text and map, and the same for macros
pub record Larger (r r' : Rooms) : Type 0 where
  pub text_larger : r.text ≤ r'.text
  pub map_larger : r.map ≤ r'.map
  pub records_same : r.records ≡ r'.records
  pub bytes_same : r.bytes ≡ r'.bytes

-- 19, 20: the refusals for want of room in text and map
abbrev pub wants_room : ℕ → Bool
wants_room n = eqb n 19 || eqb n 20

-- u stands at the front of t
pub record Front {A : Type 0} (u t : List A) : Type 0 where
  pub rest : List A
  pub front_is : t ≡ u ++ rest

-- text and map are fronts of the other's; an outcome that is no refusal for room is the same
pub record Grows (o o' : Outcome) : Type 0 where
  pub more : List ℕ
  pub text_more : o'.text ≡ o.text ++ more
  pub lines : List ℕ
  pub map_more : o'.map ≡ o.map ++ lines
  pub same : wants_room o.number ≡ false → o' ≡ o
