-- Start macros (01: "macro names defined empty").
-- Assumes nothing.
use Rattle.std.specs.Prelude.{ℕ, ◌+◌, ◌≤◌, ◌≡◌, Bool, true, false, cond, not, ◌&&◌, ◌||◌, List, [], ◌∷◌, eqb, leb, length, get_or}
use Rattle.text.specs.Bytes.{same, part}
use Rattle.lex.specs.Tokens.{in_file, Name, Escaped, is, token_at}
use Rattle.lex.specs.declared.Token.{Token}
use Rattle.names.specs.Names.{is_directive}
use Rattle.definition.specs.Definitions.{Macro, macro}
use Rattle.store.specs.Stores.{define, fits}
use Rattle.store.specs.Buffers.{Holds}
use Rattle.macros.specs.Looking.{plainly}

-- a name is a token of its own, plain or escaped
abbrev pub is_name_token : List ℕ → Token → Bool
is_name_token w t = (is Name t || is Escaped t) && (eqb t.bar 0 && eqb t.end (length w))

-- refusal 1: "a start macro's name no name, a directive's or there twice"
unfoldable pub is_start_name : List ℕ → Bool
is_start_name w = is_name_token w (token_at in_file w 0) && not (is_directive (plainly w))

-- a range of the byte store: its start and length
abbrev pub range_end : List ℕ → ℕ
range_end v = get_or v 0 0 + get_or v 1 0

abbrev pub range_of : List ℕ → List ℕ → List ℕ
range_of s v = part s (get_or v 0 0) (range_end v)

-- whether one of the ranges has the name w
unfoldable pub named_among : List ℕ → List ℕ → List (List ℕ) → Bool
named_among s w [] = false
named_among s w (v ∷ vs) = let r = named_among s w vs in cond (same w (plainly (range_of s v))) true r

-- a range inside the store with a name that none of those behind has
abbrev pub is_start : List ℕ → List ℕ → List (List ℕ) → Bool
is_start s v vs =
    leb (range_end v) (length s) && (is_start_name (range_of s v) && not (named_among s (plainly (range_of s v)) vs))

unfoldable pub all_starts : List ℕ → List (List ℕ) → Bool
all_starts s [] = true
all_starts s (v ∷ vs) = is_start s v vs && all_starts s vs

-- a macro defined empty
abbrev pub empty_macro : List ℕ → Macro
empty_macro w = macro (plainly w) [] []

-- the macros with those of the ranges
unfoldable pub started_from : List ℕ → List (List ℕ) → List Macro → List Macro
started_from s [] ms = ms
started_from s (v ∷ vs) ms = started_from s vs (define (empty_macro (range_of s v)) ms)

abbrev pub started : List ℕ → List (List ℕ) → List Macro
started s vs = started_from s vs []

-- how many bytes their stored forms take
unfoldable pub starts_size : List ℕ → List (List ℕ) → ℕ
starts_size s [] = 0
starts_size s (v ∷ vs) = length (plainly (range_of s v)) + 1 + starts_size s vs

-- refusal 1: ".. or start macros that don't fit"
unfoldable pub starts_fit : ℕ → ℕ → List ℕ → List (List ℕ) → Bool
starts_fit records bytes s vs = all_starts s vs && fits records bytes (started s vs)

-- what is lent to start macros: an empty store of 01's size, in which they fit, and bytes for a stored form
pub record Starts (s : List ℕ) (vs : List (List ℕ)) (bytes : List ℕ) (records : List (List ℕ)) (form : List ℕ) : Type 0 where
  pub small : length bytes ≤ 65536
  pub none : Holds [] bytes records 0
  pub fit : starts_fit (length records) (length bytes) s vs ≡ true
  pub form_long : 1025 ≤ length form
