-- A stored text or default read afresh one byte at a time, so that it need not be written down to be judged.
-- Assumes nothing.
use Rattle.std.specs.Prelude.{ℕ, ◌-◌, Bool, true, false, cond, not, ◌&&◌, ◌||◌, List, [], ◌∷◌, ◌++◌, eqb, leb, ltb, length, take}
use Rattle.lex.specs.Classes.{is_white, is_space, is_digit, is_start, is_run, is_sign, is_base, is_legal}
use Rattle.names.specs.Names.{bars_text}
use Rattle.brackets.specs.Steps.{Step, on, done, torn, step_of}
use Rattle.afresh.specs.Unfit.{is_open}

-- where a reading stands: between two tokens
abbrev pub Start : ℕ
Start = 0

-- in a name, plain or behind a grave accent
abbrev pub Word : ℕ
Word = 1

-- in the run of a number or of a `$`
abbrev pub Run : ℕ
Run = 2

-- in the digits of a based number
abbrev pub Based : ℕ
Based = 3

-- past an apostrophe
abbrev pub Tick : ℕ
Tick = 4

-- past an apostrophe and an `s` or `S`
abbrev pub Sign : ℕ
Sign = 5

-- past the `"` that begins a string
abbrev pub Open : ℕ
Open = 6

-- in a string
abbrev pub Within : ℕ
Within = 7

-- in a string, past an unescaped `\`
abbrev pub Escape : ℕ
Escape = 8

-- past a string of no bytes
abbrev pub Pair : ℕ
Pair = 9

-- past a `/`
abbrev pub Slash : ℕ
Slash = 10

-- past a `\`, or in an escaped name, plain or behind a grave accent
abbrev pub Solid : ℕ
Solid = 11

-- in an escaped name, past a `\`
abbrev pub Doubt : ℕ
Doubt = 12

-- past white space that a newline begins, and before it an escaped name and a `\`: if anything follows, the `\` is no part of the name
abbrev pub Line : ℕ
Line = 13

-- past a grave accent
abbrev pub Accent : ℕ
Accent = 14

-- past a grave accent and a `\`
abbrev pub Slanted : ℕ
Slanted = 15

-- past a grave accent, a `\` and a grave accent
abbrev pub Twice : ℕ
Twice = 16

-- what is read is bad
abbrev pub Bad : ℕ
Bad = 17

-- a reading of a text, or else of a default: its state, whether it stands between quote marks, whether a name stands behind a grave
-- accent, the name's bytes so far, the closing brackets due
pub record State : Type 0 where
  pub kind : ℕ
  pub text : Bool
  pub marks : Bool
  pub grave : Bool
  pub name : List ℕ
  pub due : List ℕ

abbrev pub state : ℕ → Bool → Bool → Bool → List ℕ → List ℕ → State
state k text b g n ks = record { kind = k; text = text; marks = b; grave = g; name = n; due = ks }

-- the same reading in another state, without a name
abbrev pub at : ℕ → State → State
at k q = state k q.text q.marks false [] q.due

-- in a name that has only the byte x so far
abbrev pub naming : ℕ → Bool → State → ℕ → State
naming k grave q x = state k q.text q.marks grave (x ∷ []) q.due

-- the name with the byte x
abbrev pub added : ℕ → State → ℕ → State
added k q x = state k q.text q.marks q.grave (q.name ++ (x ∷ [])) q.due

-- the same, unless the name has so many bytes: "name over 1,024 bytes"
abbrev pub longer : ℕ → ℕ → State → ℕ → State
longer most k q x = cond (leb most (length q.name)) (at Bad q) (added k q x)

abbrev pub by_bracket : State → Step → State
by_bracket q (on ks) = state Start q.text q.marks false [] ks
by_bracket q done = at Bad q
by_bracket q torn = at Bad q

-- a byte that is a token; in a default it may be a bracket or a comma
abbrev pub single : State → ℕ → State
single q x = cond q.text (at Start q) (by_bracket q (step_of x q.due))

-- the first byte of a token, none of those below
unfoldable pub sign : State → ℕ → State
sign q x =
    cond q.marks (single q x)
    (cond (eqb x 47) (at Slash q)
    (cond (eqb x 92) (at Solid q)
    (single q x)))

-- the first byte of a token
unfoldable pub fresh : State → ℕ → State
fresh q x =
    cond (is_white x) (at Start q)
    (cond (is_start x) (naming Word false q x)
    (cond (is_digit x || eqb x 36) (at Run q)
    (cond (eqb x 10) (cond q.marks (at Bad q) (at Start q))
    (cond (eqb x 34) (at Open q)
    (cond (eqb x 39) (at Tick q)
    (cond (eqb x 96) (at Accent q)
    (sign q x)))))))

-- no name, or a directive's, behind a grave accent
abbrev pub spoilt : State → Bool
spoilt q = q.grave && (not (is_open q.name) || bars_text q.name)

-- the byte x begins a token, and a name is whole
unfoldable pub closed : State → ℕ → State
closed q x = cond (spoilt q) (at Bad q) (fresh q x)

unfoldable pub in_word : State → ℕ → State
in_word q x = cond (is_run 36 x) (longer 1024 Word q x) (closed q x)

unfoldable pub in_solid : State → ℕ → State
in_solid q x = cond (is_space x) (closed q x) (cond (eqb x 92) (longer 1025 Doubt q x) (longer 1024 Solid q x))

unfoldable pub in_doubt : State → ℕ → State
in_doubt q x =
    cond (ltb 1024 (length q.name)) (at Bad q)
    (cond (eqb x 10) (state Line q.text q.marks q.grave q.name q.due)
    (in_solid q x))

-- the name without its last byte
abbrev pub shorn : State → State
shorn q = state Line q.text q.marks q.grave (take (length q.name - 1) q.name) q.due

unfoldable pub in_line : State → ℕ → State
in_line q x = cond (is_space x) q (closed (shorn q) x)

-- past a quote mark
abbrev pub turned : State → State
turned q = state Start q.text (not q.marks) false [] q.due

unfoldable pub in_accent : State → ℕ → State
in_accent q x =
    cond (is_start x) (naming Word true q x)
    (cond (eqb x 34) (turned q)
    (cond (eqb x 96) (at Start q)
    (cond (eqb x 92) (at Slanted q)
    (at Bad q))))

-- an escaped name behind a grave accent, of these bytes so far
abbrev pub slant : List ℕ → State → State
slant n q = state Solid q.text q.marks true n q.due

unfoldable pub in_slanted : State → ℕ → State
in_slanted q x = cond (eqb x 96) (at Twice q) (cond q.marks (at Bad q) (in_solid (slant [] q) x))

unfoldable pub in_twice : State → ℕ → State
in_twice q x = cond (eqb x 34) (at Start q) (cond q.marks (at Bad q) (in_solid (slant (96 ∷ []) q) x))

unfoldable pub in_tick : State → ℕ → State
in_tick q x =
    cond (is_base x) (at Based q)
    (cond (is_sign x) (naming Sign false q x)
    (fresh q x))

-- past what a run or a based number holds
unfoldable pub in_run : ℕ → ℕ → State → ℕ → State
in_run k more q x = cond (is_run more x) (at k q) (fresh q x)

-- in a string
unfoldable pub in_string : State → ℕ → State
in_string q x =
    cond (eqb x 10) (at Bad q)
    (cond (eqb q.kind Escape) (at Within q)
    (cond (eqb x 92) (at Escape q)
    (cond (eqb x 34) (cond (eqb q.kind Open) (at Pair q) (at Start q))
    (at Within q))))

abbrev pub is_string : State → Bool
is_string q = eqb q.kind Open || (eqb q.kind Within || eqb q.kind Escape)

-- behind a name's `\` or a grave accent
unfoldable pub in_marked : State → ℕ → State
in_marked q x =
    cond (eqb q.kind Solid) (in_solid q x)
    (cond (eqb q.kind Doubt) (in_doubt q x)
    (cond (eqb q.kind Line) (in_line q x)
    (cond (eqb q.kind Accent) (in_accent q x)
    (cond (eqb q.kind Slanted) (in_slanted q x)
    (cond (eqb q.kind Twice) (in_twice q x)
    (at Bad q))))))

-- past an apostrophe, its sign, a string of no bytes, a `/`
unfoldable pub in_short : State → ℕ → State
in_short q x =
    cond (eqb q.kind Tick) (in_tick q x)
    (cond (eqb q.kind Sign) (cond (is_base x) (at Based q) (in_word q x))
    (cond (eqb q.kind Pair) (cond (eqb x 34) (at Bad q) (fresh q x))
    (cond (eqb q.kind Slash) (cond (eqb x 47 || eqb x 42) (at Bad q) (fresh q x))
    (in_marked q x))))

-- outside strings
unfoldable pub outside : State → ℕ → State
outside q x =
    cond (eqb q.kind Start) (fresh q x)
    (cond (eqb q.kind Word) (in_word q x)
    (cond (eqb q.kind Run) (in_run Run 36 q x)
    (cond (eqb q.kind Based) (in_run Based 63 q x)
    (in_short q x))))

-- a default has no grave accent outside its strings
unfoldable pub next : State → ℕ → State
next q x =
    cond (not (is_legal x)) (at Bad q)
    (cond (is_string q) (in_string q x)
    (cond (not q.text && eqb x 96) (at Bad q)
    (outside q x)))

unfoldable pub reading : State → List ℕ → State
reading q [] = q
reading q (x ∷ xs) = reading (next q x) xs

-- what the end of the text leaves bad in a state
unfoldable pub leaves : State → Bool
leaves q =
    cond (eqb q.kind Word || (eqb q.kind Sign || eqb q.kind Solid)) (spoilt q)
    (cond (eqb q.kind Doubt || eqb q.kind Line) (ltb 1024 (length q.name) || spoilt q)
    (is_string q || (eqb q.kind Accent || (eqb q.kind Slanted || leb Bad q.kind))))

-- the verdict at the end
unfoldable pub ended : State → Bool
ended q = q.marks || (is_open q.due || leaves q)

-- before the first byte
abbrev pub begun : Bool → State
begun text = state Start text false false [] []
