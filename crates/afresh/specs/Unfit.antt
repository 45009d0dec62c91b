-- What the reader of stored bytes tells of a text or a default: that it is unfit, which is bad or such as no definition stores.
-- It serves to tell which stores definitions leave (`fitStored` in `genuine`). It stands here because what the reader gives is
-- proved against it, and because definitions are judged by that reader: of what a definition stores that nothing bars, unfit
-- is no more than bad (`nothing-more` in `judging`, `default-more` in `definition`).
-- Assumes nothing.
use Rattle.std.specs.Prelude.{ℕ, ◌+◌, ◌-◌, Bool, true, false, cond, not, ◌&&◌, ◌||◌, List, [], ◌∷◌, eqb, leb, get_or}
use Rattle.text.specs.Bytes.{holds, part}
use Rattle.lex.specs.Tokens.{in_file, in_text, Newline, LineComment, BlockComment, String, Escaped, Grave, Byte, is, marks_after, tokens}
use Rattle.lex.specs.declared.Token.{Token}
use Rattle.brackets.specs.Steps.{Step, on, done, torn, step_of}
use Rattle.afresh.specs.Judging.{is_barred, barred_grave}

-- an escaped name, also behind a grave accent
abbrev pub is_slanted : List ℕ → Token → Bool
is_slanted w t = is Escaped t || (is Grave t && eqb (get_or w (t.at + 1) 0) 92)

-- an escaped name that is over 1,024 bytes with the `\` right behind it
abbrev pub is_crowded : List ℕ → Token → Bool
is_crowded w t = is_slanted w t && (leb 1024 (t.end - t.from) && eqb (get_or w t.end 0) 92)

-- what no definition stores: a comment, a newline between quote marks or in a string, a crowded name
abbrev pub is_stray : List ℕ → Bool → Token → Bool
is_stray w odd t =
    (is LineComment t || is BlockComment t) ||
    ((is Newline t && odd) || ((is String t && holds 10 (part w t.at t.end)) || is_crowded w t))

-- barred or stray
abbrev pub is_unfit : List ℕ → Bool → Token → Bool
is_unfit w odd t = is_barred t || is_stray w odd t

-- a stored text; odd: an odd number of quote marks so far
unfoldable pub unfit_in : List ℕ → Bool → List Token → Bool
unfit_in w odd [] = odd
unfit_in w odd (t ∷ ts) =
    let r = unfit_in w (marks_after odd t) ts in
    cond (is_unfit w odd t || barred_grave w t) true r

unfoldable pub unfit_text : List ℕ → Bool
unfit_text w = unfit_in w false (tokens in_text w 0)

-- "a grave accent outside a string"
abbrev pub is_accented : List ℕ → Token → Bool
is_accented w t = not (is String t) && holds 96 (part w t.at t.end)

-- what a token does to the closing brackets due
abbrev pub held_by : List ℕ → Token → List ℕ → Step
held_by w t ks = cond (is Byte t) (step_of (get_or w t.at 0) ks) (on ks)

-- brackets open at the end
abbrev pub is_open : List ℕ → Bool
is_open [] = false
is_open (k ∷ ks) = true

-- an unshielded `,` or `)`, or unmatched brackets
abbrev pub unless : Step → (List ℕ → Bool) → Bool
unless (on ks) go = go ks
unless done go = true
unless torn go = true

-- a stored default, with closing brackets due
unfoldable pub unfit_held : List ℕ → List ℕ → List Token → Bool
unfit_held w ks [] = is_open ks
unfit_held w ks (t ∷ ts) = cond (is_unfit w false t || is_accented w t) true (unless (held_by w t ks) (λ ks'. unfit_held w ks' ts))

unfoldable pub unfit_default : List ℕ → Bool
unfit_default w = unfit_held w [] (tokens in_file w 0)

-- a stored text, or else a stored default
abbrev pub is_unfit_as : Bool → List ℕ → Bool
is_unfit_as text w = cond text (unfit_text w) (unfit_default w)
