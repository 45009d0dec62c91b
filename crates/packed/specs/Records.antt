-- Macro records (01): "start, name length, text start, text length".
-- Assumes nothing.
use Rattle.std.specs.Prelude.{ℕ, zero, suc, ◌+◌, ◌-◌, ◌%◌, ◌<◌, ◌≡◌, List, [], ◌∷◌, ◌++◌, length, take, drop, get_or}
use Rattle.packed.specs.declared.Record.{Record}

-- a record's four numbers, cut to 32 bits
abbrev pub cut : ℕ → ℕ
cut x = x % 4294967296

abbrev pub numbers_of : Record → List ℕ
numbers_of r = cut r.start ∷ cut r.name ∷ cut r.text ∷ cut r.size ∷ []

abbrev pub blank_record : List ℕ
blank_record = 0 ∷ 0 ∷ 0 ∷ 0 ∷ []

-- a record from its four numbers
abbrev pub record_of : List ℕ → Record
record_of v = record { start = get_or v 0 0; name = get_or v 1 0; text = get_or v 2 0; size = get_or v 3 0 }

-- each number of a record has 32 bits
pub record Small (r : Record) : Type 0 where
  pub start_small : r.start < 4294967296
  pub name_small : r.name < 4294967296
  pub text_small : r.text < 4294967296
  pub size_small : r.size < 4294967296

-- r is the record of four numbers v, each of 32 bits
pub record RecordIs (v : List ℕ) (r : Record) : Type 0 where
  pub four : length v ≡ 4
  pub value : r ≡ record_of v
  pub small : Small r

-- the form of a record moved on by `more` and back by `less` bytes
abbrev pub moved_by : ℕ → ℕ → List ℕ → List ℕ
moved_by more less v =
    cut (get_or v 0 0 + more - less) ∷ get_or v 1 0 ∷ cut (get_or v 2 0 + more - less) ∷ get_or v 3 0 ∷ []

-- the first n of a list of records moved so
unfoldable pub moved_in : ℕ → ℕ → ℕ → List (List ℕ) → List (List ℕ)
moved_in more less zero vs = vs
moved_in more less (suc n) [] = []
moved_in more less (suc n) (v ∷ vs) = moved_by more less v ∷ moved_in more less n vs

-- the records from index i to before e moved so
unfoldable pub moved_from : ℕ → ℕ → ℕ → ℕ → List (List ℕ) → List (List ℕ)
moved_from more less i e vs = take i vs ++ moved_in more less (e - i) (drop i vs)
