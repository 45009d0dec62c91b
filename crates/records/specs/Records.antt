-- Macro records as structs: as rows of four numbers, zero ones, one put in or taken out at a place.
-- Assumes nothing.
use Rattle.std.specs.Prelude.{ℕ, suc, ◌-◌, Bool, true, ◌&&◌, List, [], ◌∷◌, ◌++◌, map, eqb, take, drop}
use Rattle.records.specs.declared.Record.{Record}

abbrev pub no_record : Record
no_record = record { start = 0; name_length = 0; text_start = 0; text_length = 0 }

-- "start, name length, text start, text length"
abbrev pub row_of : Record → List ℕ
row_of r = r.start ∷ r.name_length ∷ r.text_start ∷ r.text_length ∷ []

-- lent records as the rows of the core's contracts
abbrev pub rows_of : List Record → List (List ℕ)
rows_of rs = map row_of rs

abbrev pub is_none : Record → Bool
is_none r = eqb r.start 0 && (eqb r.name_length 0 && (eqb r.text_start 0 && eqb r.text_length 0))

unfoldable pub all_none : List Record → Bool
all_none [] = true
all_none (r ∷ rs) = is_none r && all_none rs

-- the first n elements, with a at `at`; what lay at n is lost, and the rest is as it was
unfoldable pub inserted : {A : Type 0} → List A → ℕ → ℕ → A → List A
inserted xs n at a = take at xs ++ (a ∷ (take (n - at) (drop at xs) ++ drop (suc n) xs))

-- the first n elements without the one at `at`, and z after them
unfoldable pub removed : {A : Type 0} → List A → ℕ → ℕ → A → List A
removed xs n at z = take at xs ++ (take (n - suc at) (drop (suc at) xs) ++ (z ∷ drop n xs))
