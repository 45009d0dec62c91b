-- "default with a grave accent outside a string" (01, "Bad definition"), of a default as it stands in its file.
-- Assumes nothing.
use Rattle.std.specs.Prelude.{ℕ, Bool, true, false, cond, not, ◌&&◌, ◌||◌, List, [], ◌∷◌, ltb}
use Rattle.text.specs.Bytes.{holds, part}
use Rattle.lex.specs.Tokens.{in_definition, LineComment, BlockComment, String, is, tokens}
use Rattle.lex.specs.declared.Token.{Token}

-- a string or a comment, whose bytes are no part of what is read
abbrev pub is_free : Token → Bool
is_free t = is String t || (is LineComment t || is BlockComment t)

-- in a token before x
unfoldable pub grave_in : List ℕ → ℕ → List Token → Bool
grave_in s x [] = false
grave_in s x (t ∷ ts) =
    let r = grave_in s x ts in
    cond (ltb t.at x) (cond (not (is_free t) && holds 96 (part s t.at t.end)) true r) false

unfoldable pub has_grave : List ℕ → ℕ → ℕ → Bool
has_grave s i x = grave_in s x (tokens in_definition s i)
