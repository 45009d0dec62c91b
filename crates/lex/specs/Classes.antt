-- The byte classes of 01's section "Tokens".
-- Assumes nothing.
use Rattle.std.specs.Prelude.{ℕ, Bool, not, ◌&&◌, ◌||◌, leb, eqb}

-- "White byte (9, 12, 32)"
abbrev pub is_white : ℕ → Bool
is_white b = eqb b 9 || (eqb b 12 || eqb b 32)

-- white space: a white byte or a newline
abbrev pub is_space : ℕ → Bool
is_space b = eqb b 10 || is_white b

abbrev pub is_letter : ℕ → Bool
is_letter b = (leb 65 b && leb b 90) || (leb 97 b && leb b 122)

abbrev pub is_digit : ℕ → Bool
is_digit b = leb 48 b && leb b 57

-- "letter or `_`"
abbrev pub is_start : ℕ → Bool
is_start b = is_letter b || eqb b 95

-- the bytes of a run: "letters, digits, `_`" and one more, `$` (36) in a name and `?` (63) in a based number
abbrev pub is_run : ℕ → ℕ → Bool
is_run more b = is_start b || (is_digit b || eqb b more)

-- "optional `s` or `S`"
abbrev pub is_sign : ℕ → Bool
is_sign b = eqb b 115 || eqb b 83

-- "one of `bBoOdDhH`"
abbrev pub is_base : ℕ → Bool
is_base b = eqb b 98 || (eqb b 66 || (eqb b 111 || (eqb b 79 || (eqb b 100 || (eqb b 68 || (eqb b 104 || eqb b 72))))))

-- refusal 2: "a byte other than 9, 10, 12, 32..126"
abbrev pub is_legal : ℕ → Bool
is_legal b = is_space b || (leb 32 b && leb b 126)

-- a byte of a line's rest; `solid`: of an escaped name, which ends at white space
abbrev pub is_span : Bool → ℕ → Bool
is_span solid b = not (eqb b 10) && not (solid && is_white b)
