-- The head of a definition: its name, and whether a formal list opens.
-- Assumes nothing.
use Rattle.std.specs.Prelude.{ℕ, ◌+◌, Bool, true, false, cond, ◌&&◌, ◌||◌, List, [], ◌∷◌}
use Rattle.lex.specs.Tokens.{in_definition, White, Name, Escaped, is, is_byte, is_gap, token_at, tokens}
use Rattle.lex.specs.declared.Token.{Token}
use Rattle.definition.specs.declared.Head.{Head}

unfoldable pub gap_in : ℕ → List Token → ℕ
gap_in i [] = i
gap_in i (t ∷ ts) =
    let r = gap_in t.end ts in
    cond (is_gap t) r i

-- past the white bytes, comments and `\`newlines from i on
unfoldable pub gap_end : List ℕ → ℕ → ℕ
gap_end s i = gap_in i (tokens in_definition s i)

-- the next word of a definition
abbrev pub next_at : List ℕ → ℕ → Token
next_at s i = token_at in_definition s (gap_end s i)

-- "A `(` opens formals only straight after the name, or after the one white byte that ends an escaped name"
unfoldable pub open_at : List ℕ → Token → ℕ
open_at s t = cond (is Escaped t && is White (token_at in_definition s t.end)) (t.end + 1) t.end

-- a name with a formal list that starts at `next`, or with a text that does
abbrev pub head : Token → Bool → ℕ → Head
head t listed next = record { whole = true; from = t.from; end = t.end; listed = listed; next = next }

abbrev pub no_head : Head
no_head = record { whole = false; from = 0; end = 0; listed = false; next = 0 }

abbrev pub head_by : List ℕ → Token → Head
head_by s t =
    cond (is_byte s 40 (token_at in_definition s (open_at s t))) (head t true (open_at s t + 1))
    (head t false t.end)

-- of the definition whose word `define` ends at i
unfoldable pub head_at : List ℕ → ℕ → Head
head_at s i = cond (is Name (next_at s i) || is Escaped (next_at s i)) (head_by s (next_at s i)) no_head
