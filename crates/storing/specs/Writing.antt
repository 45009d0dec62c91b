-- Bytes added to a buffer behind its first n, those at the front that are white space left out.
-- Assumes nothing.
use Rattle.std.specs.Prelude.{ℕ, Option, Some, None, ◌+◌, ◌<◌, ◌≤◌, Bool, cond, ◌≡◌, List, ◌++◌, eqb, length, take}
use Rattle.text.specs.Bytes.{part}
use Rattle.storing.specs.Stored.{trim_left, trim_right, stored}

-- what is added of ys: nothing stands behind `from` yet, so white space is left out; or all
abbrev pub led : Bool → List ℕ → List ℕ
led first ys = cond first (trim_left ys) ys

-- the buffer o became o', ys added behind its first n, which are m then; what is stored starts at `from`
pub record Added (o o' : List ℕ) (from n m : ℕ) (ys : List ℕ) : Type 0 where
  pub same_length : length o' ≡ length o
  pub count : m ≡ n + length (led (eqb n from) ys)
  pub fits : m ≤ length o
  pub bytes : take m o' ≡ take n o ++ led (eqb n from) ys

-- ys were added up to m, or there is no room for them
abbrev pub AddedBy : Option ℕ → List ℕ → List ℕ → ℕ → ℕ → List ℕ → Type 0
AddedBy (Some m) o o' from n ys = Added o o' from n m ys
AddedBy None o o' from n ys = length o < n + length ys

-- o from `from` to before n, without white space at its end, ends at r
pub record Trimmed (o : List ℕ) (from n r : ℕ) : Type 0 where
  pub past : from ≤ r
  pub within : r ≤ n
  pub bytes : part o from r ≡ trim_right (part o from n)

-- the text from i to before x is stored behind the first `from` bytes, up to m
pub record StoredAt (s : List ℕ) (i x : ℕ) (o o' : List ℕ) (from m : ℕ) : Type 0 where
  pub count : m ≡ from + length (stored s i x)
  pub fits : m ≤ length o
  pub bytes : take m o' ≡ take from o ++ stored s i x

-- it is stored, or its bytes do not fit behind `from` before they are trimmed, which are no more than those of s
abbrev pub StoredBy : Option ℕ → List ℕ → ℕ → ℕ → List ℕ → List ℕ → ℕ → Type 0
StoredBy (Some m) s i x o o' from = StoredAt s i x o o' from m
StoredBy None s i x o o' from = length o < from + length s
