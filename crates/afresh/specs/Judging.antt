-- What makes a text or a default bad (01, "Bad definition"), judged on what is stored, read afresh.
-- Assumes nothing.
use Rattle.std.specs.Prelude.{ℕ, Bool, true, false, cond, not, ◌&&◌, ◌||◌, List, [], ◌∷◌, eqb}
use Rattle.lex.specs.Tokens.{in_file, in_text, Grave, is, marks_after, name_of, tokens}
use Rattle.lex.specs.declared.Token.{Token}
use Rattle.names.specs.Names.{bars_text}

-- a token "that refusals 2 to 6 would bar when read"
abbrev pub is_barred : Token → Bool
is_barred t = not (eqb t.bar 0)

-- "directive in the text (the two `__` words are allowed)"
abbrev pub barred_grave : List ℕ → Token → Bool
barred_grave w t = is Grave t && bars_text (name_of w t)

-- "directive in the text (the two `__` words are allowed), odd number of quote marks, or a stored text that refusals
-- 2 to 6 would bar when read"; odd: so many quote marks so far
unfoldable pub bad_in : List ℕ → Bool → List Token → Bool
bad_in w odd [] = odd
bad_in w odd (t ∷ ts) =
    let r = bad_in w (marks_after odd t) ts in
    cond (is_barred t || barred_grave w t) true r

unfoldable pub bad_text : List ℕ → Bool
bad_text w = bad_in w false (tokens in_text w 0)

-- any of them is barred
unfoldable pub barred_in : List Token → Bool
barred_in [] = false
barred_in (t ∷ ts) =
    let r = barred_in ts in
    cond (is_barred t) true r

-- "a stored text that refusals 2 to 6 would bar when read"; "defaults .. likewise"
unfoldable pub bad_default : List ℕ → Bool
bad_default w = barred_in (tokens in_file w 0)
