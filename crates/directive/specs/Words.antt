-- The next word of a directive: "All but `define` stand on one line, white bytes or comments between words."
-- Assumes nothing.
use Rattle.std.specs.Prelude.{ℕ, Bool, cond, not, ◌&&◌, ◌||◌, List, [], ◌∷◌, eqb}
use Rattle.text.specs.Bytes.{holds, part}
use Rattle.lex.specs.Tokens.{in_file, Newline, BlockComment, End, is, is_gap, token_at, tokens}
use Rattle.lex.specs.declared.Token.{Token}
use Rattle.directive.specs.declared.Word.{Word}
use Rattle.directive.specs.declared.Word.TheVariants.{Found, Missing, Barred}

-- whether a token goes over a line's end
abbrev pub wraps : List ℕ → Token → Bool
wraps s t = holds 10 (part s t.at t.end)

-- whether a token may stand between words: white or a comment, on one line
abbrev pub is_between : List ℕ → Token → Bool
is_between s t = eqb t.bar 0 && (is_gap t && not (is BlockComment t && wraps s t))

unfoldable pub start_in : List ℕ → ℕ → List Token → ℕ
start_in s i [] = i
start_in s i (t ∷ ts) =
    let r = start_in s t.end ts in
    cond (is_between s t) r i

-- where the first token from i on that may not stand between words starts, or the text ends
unfoldable pub word_start : List ℕ → ℕ → ℕ
word_start s i = start_in s i (tokens in_file s i)

-- the token that stands there, if it is a word
abbrev pub word_by : Token → Word
word_by t =
    cond (not (eqb t.bar 0)) (Barred t.bar t.at)
    (cond (is Newline t || (is_gap t || is End t)) Missing
    (Found t))

unfoldable pub word_at : List ℕ → ℕ → Word
word_at s i = word_by (token_at in_file s (word_start s i))
