-- References added to a lent list behind its first n.
-- Assumes nothing.
use Rattle.std.specs.Prelude.{ℕ, ◌+◌, ◌<◌, ◌≤◌, ◌≡◌, List, ◌++◌, length, take, Option, Some, None}
use Rattle.pending.specs.Pending.{Pending}
use Rattle.pending.specs.References.{pendings}

-- there is room for n references, at most `most` are taken
pub record Takes (o : List (List ℕ)) (most n : ℕ) : Type 0 where
  pub filled : n ≤ most
  pub lent : most ≤ length o

-- the list o became o', the tokens q added behind its first n, which are m then
pub record Adds (s b : List ℕ) (o o' : List (List ℕ)) (most n m : ℕ) (q : List Pending) : Type 0 where
  pub same_length : length o' ≡ length o
  pub count : m ≡ n + length q
  pub fits : m ≤ most
  pub tokens : pendings s b (take m o') ≡ pendings s b (take n o) ++ q

-- they were added, or are more than may be taken
abbrev pub AddsBy : Option ℕ → List ℕ → List ℕ → List (List ℕ) → List (List ℕ) → ℕ → ℕ → List Pending → Type 0
AddsBy (Some m) s b o o' most n q = Adds s b o o' most n m q
AddsBy None s b o o' most n q = (most < n + length q) × (length o' ≡ length o)
