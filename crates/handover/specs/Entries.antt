-- The include table (01, "Hand-over"): its entries are five numbers each, form (0 quoted, 1 angle), start and length of the
-- name, start and length of the body, ranges of the byte store.
-- Assumes nothing.
use Rattle.std.specs.Prelude.{ℕ, suc, ◌+◌, Bool, true, cond, not, ◌&&◌, ◌||◌, List, [], ◌∷◌, eqb, leb, length, get_or}
use Rattle.text.specs.Bytes.{same, part}

abbrev pub blank_entry : List ℕ
blank_entry = 0 ∷ 0 ∷ 0 ∷ 0 ∷ 0 ∷ []

abbrev pub name_end : List ℕ → ℕ
name_end v = get_or v 1 0 + get_or v 2 0

abbrev pub body_end : List ℕ → ℕ
body_end v = get_or v 3 0 + get_or v 4 0

abbrev pub entry_name : List ℕ → List ℕ → List ℕ
entry_name s v = part s (get_or v 1 0) (name_end v)

abbrev pub entry_body : List ℕ → List ℕ → List ℕ
entry_body s v = part s (get_or v 3 0) (body_end v)

-- the file of entry i
abbrev pub body_of : List ℕ → List (List ℕ) → ℕ → List ℕ
body_of s table i = entry_body s (get_or table i blank_entry)

abbrev pub name_of : List ℕ → List (List ℕ) → ℕ → List ℕ
name_of s table i = entry_name s (get_or table i blank_entry)

-- "of 32 to 126 without `"`, `\`, `>`"
abbrev pub is_name_byte : ℕ → Bool
is_name_byte b = (leb 32 b && leb b 126) && not (eqb b 34 || (eqb b 92 || eqb b 62))

unfoldable pub name_bytes : List ℕ → Bool
name_bytes [] = true
name_bytes (b ∷ w) = is_name_byte b && name_bytes w

-- "file name 1 to 255 bytes"
unfoldable pub is_file_name : List ℕ → Bool
is_file_name w = (leb 1 (length w) && leb (length w) 255) && name_bytes w

-- an entry of a form that there is, its ranges inside the store, its file "at most 65,535 bytes"
unfoldable pub is_entry : List ℕ → List ℕ → Bool
is_entry s v =
    leb (get_or v 0 0) 1 &&
    (leb (name_end v) (length s) && (leb (body_end v) (length s) && (leb (get_or v 4 0) 65535 && is_file_name (entry_name s v))))

unfoldable pub all_entries : List ℕ → List (List ℕ) → Bool
all_entries s [] = true
all_entries s (v ∷ vs) = is_entry s v && all_entries s vs

abbrev pub is_named : List ℕ → ℕ → List ℕ → List ℕ → Bool
is_named s form w v = eqb (get_or v 0 0) form && same w (entry_name s v)

-- "the first entry of that form and name wins"; how many there are if none is
unfoldable pub entry_of : List ℕ → ℕ → List ℕ → List (List ℕ) → ℕ
entry_of s form w [] = 0
entry_of s form w (v ∷ vs) = let r = entry_of s form w vs in cond (is_named s form w v) 0 (suc r)
