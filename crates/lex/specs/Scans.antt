-- Where the parts of a token end. Each scan goes along the suffix with the position carried, one byte at a time;
-- `ok`: all bytes so far are legal.
-- Assumes nothing.
use Rattle.std.specs.Prelude.{ℕ, suc, Bool, true, false, cond, not, ◌&&◌, List, [], ◌∷◌, eqb, get_or, drop}
use Rattle.lex.specs.Classes.{is_run, is_span, is_legal}
use Rattle.lex.specs.declared.Scan.{Scan}

-- an end, with the refusal n unless a byte before it is illegal: "of several the smallest"
abbrev pub scan : ℕ → Bool → ℕ → Scan
scan e ok n = record { end = e; bar = cond ok n 2 }

-- a run of letters, digits, `_` and the byte `more`, all of them legal
unfoldable pub run_from : ℕ → ℕ → List ℕ → ℕ
run_from more i [] = i
run_from more i (x ∷ xs) =
    let r = run_from more (suc i) xs in
    cond (is_run more x) r i

unfoldable pub run_end : ℕ → List ℕ → ℕ → ℕ
run_end more s i = run_from more i (drop i s)

-- the rest of a line or of an escaped name; `stops`: it also ends at "a `\` just before a newline"
unfoldable pub span_from : Bool → Bool → Bool → ℕ → List ℕ → Scan
span_from solid stops ok i [] = scan i ok 0
span_from solid stops ok i (x ∷ xs) =
    let r = span_from solid stops (ok && is_legal x) (suc i) xs in
    cond (not (is_span solid x)) (scan i ok 0)
    (cond (stops && (eqb x 92 && eqb (get_or xs 0 0) 10)) (scan i ok 0)
    r)

unfoldable pub span_end : Bool → Bool → List ℕ → ℕ → Scan
span_end solid stops s i = span_from solid stops true i (drop i s)

-- "string to the next unescaped `"`"; 3: "unfinished at end of file, or a string reaches a bare newline";
-- `esc`: the byte before is an unescaped `\`
unfoldable pub string_from : Bool → Bool → ℕ → List ℕ → Scan
string_from esc ok i [] = scan i ok 3
string_from true ok i (x ∷ xs) = string_from false (ok && is_legal x) (suc i) xs
string_from false ok i (x ∷ xs) =
    let r = string_from (eqb x 92) (ok && is_legal x) (suc i) xs in
    cond (eqb x 34) (scan (suc i) ok 0)
    (cond (eqb x 10) (scan i ok 3)
    r)

unfoldable pub string_end : List ℕ → ℕ → Scan
string_end s i = string_from false true i (drop i s)

-- "block comment"; 3: "unfinished at end of file"; `star`: the byte before is a `*` of the comment's text
unfoldable pub block_from : Bool → Bool → ℕ → List ℕ → Scan
block_from star ok i [] = scan i ok 3
block_from star ok i (x ∷ xs) =
    let r = block_from (eqb x 42) (ok && is_legal x) (suc i) xs in
    cond (star && eqb x 47) (scan (suc i) ok 0) r

unfoldable pub block_end : List ℕ → ℕ → Scan
block_end s i = block_from false true i (drop i s)
