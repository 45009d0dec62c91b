-- What is stored of a macro's text or of a default (01, "Macros").
-- Assumes nothing.
use Rattle.std.specs.Prelude.{ℕ, Bool, false, cond, not, ◌&&◌, ◌||◌, List, [], ◌∷◌, ◌++◌, eqb, ltb}
use Rattle.text.specs.Bytes.{part}
use Rattle.lex.specs.Classes.{is_space}
use Rattle.lex.specs.Tokens.{in_definition, LineComment, BlockComment, String, Continuation, is, marks_after, tokens}
use Rattle.lex.specs.declared.Token.{Token}

-- what an escape, `\` and x, gives: nothing if it is `\`newline
abbrev pub escape_of : ℕ → List ℕ
escape_of x = cond (eqb x 10) [] (92 ∷ x ∷ [])

-- what byte x of a string gives; `esc`: the byte before is an unescaped `\`, not yet given out
abbrev pub given : Bool → ℕ → List ℕ
given esc x = cond esc (escape_of x) (cond (eqb x 92) [] (x ∷ []))

-- a string's bytes without each `\`newline
unfoldable pub joined_from : Bool → List ℕ → List ℕ
joined_from esc [] = cond esc (92 ∷ []) []
joined_from esc (x ∷ xs) = given esc x ++ joined_from (not esc && eqb x 92) xs

-- "each comment becomes one space, `\`newline a newline (nothing inside a string or between quote marks)";
-- b: between quote marks
unfoldable pub piece : List ℕ → Bool → Token → List ℕ
piece s b t =
    cond (is LineComment t || is BlockComment t) (32 ∷ [])
    (cond (is Continuation t) (cond b [] (10 ∷ []))
    (cond (is String t) (joined_from false (part s t.at t.end))
    (part s t.at t.end)))

-- the pieces of the tokens before x
unfoldable pub pieces : List ℕ → ℕ → Bool → List Token → List ℕ
pieces s x b [] = []
pieces s x b (t ∷ ts) =
    let r = pieces s x (marks_after b t) ts in
    cond (ltb t.at x) (piece s b t ++ r) []

-- "white space and newlines at both ends dropped"
unfoldable pub trim_left : List ℕ → List ℕ
trim_left [] = []
trim_left (x ∷ xs) = cond (is_space x) (trim_left xs) (x ∷ xs)

abbrev pub keep : ℕ → List ℕ → List ℕ
keep x [] = cond (is_space x) [] (x ∷ [])
keep x (y ∷ ys) = x ∷ y ∷ ys

unfoldable pub trim_right : List ℕ → List ℕ
trim_right [] = []
trim_right (x ∷ xs) = keep x (trim_right xs)

-- what is stored of the text from i to before x
unfoldable pub stored : List ℕ → ℕ → ℕ → List ℕ
stored s i x = trim_right (trim_left (pieces s x false (tokens in_definition s i)))
