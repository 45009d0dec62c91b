-- The token at a position (01, "Tokens"), with the refusal 2 to 6 that bars it.
-- Assumes nothing.
use Rattle.std.specs.Prelude.{ℕ, zero, suc, ◌+◌, ◌-◌, Bool, true, false, cond, not, ◌&&◌, ◌||◌, List, [], ◌∷◌, eqb, leb, ltb, length, get_or}
use Rattle.text.specs.Bytes.{part}
use Rattle.lex.specs.Classes.{is_white, is_digit, is_start, is_sign, is_base, is_legal}
use Rattle.lex.specs.Scans.{run_end, span_end, string_end, block_end}
use Rattle.lex.specs.declared.Scan.{Scan}
use Rattle.lex.specs.declared.Mode.{Mode}
use Rattle.lex.specs.declared.Token.{Token}

-- where a text is read: in a file, where a joiner and either quote mark bar
abbrev pub in_file : Mode
in_file = record { text = false; define = false; marks = false }

-- a definition as it stands in its file
abbrev pub in_definition : Mode
in_definition = record { text = true; define = true; marks = false }

-- a stored text, read afresh
abbrev pub in_text : Mode
in_text = record { text = true; define = false; marks = false }

-- between quote marks or not
abbrev pub between : Mode → Bool → Mode
between m b = record { text = m.text; define = m.define; marks = b }

-- past a quote mark: "From a quote mark to the next or the end `\`, `//` and `/*` are plain bytes"
abbrev pub turned : Mode → Mode
turned m = record { text = m.text; define = m.define; marks = m.text && not m.marks }

-- 4: "a joiner or either quote mark outside macro text"
abbrev pub mark_bar : Mode → ℕ
mark_bar m = cond m.text 0 4

-- the kinds of tokens
abbrev pub White : ℕ
White = 0

abbrev pub Newline : ℕ
Newline = 1

abbrev pub LineComment : ℕ
LineComment = 2

abbrev pub BlockComment : ℕ
BlockComment = 3

abbrev pub String : ℕ
String = 4

abbrev pub Name : ℕ
Name = 5

abbrev pub Dollar : ℕ
Dollar = 6

abbrev pub Escaped : ℕ
Escaped = 7

abbrev pub Number : ℕ
Number = 8

abbrev pub Based : ℕ
Based = 9

-- quote mark, escaped quote mark, joiner
abbrev pub Quote : ℕ
Quote = 10

abbrev pub EscapedQuote : ℕ
EscapedQuote = 11

abbrev pub Joiner : ℕ
Joiner = 12

-- a grave accent with a name or escaped name
abbrev pub Grave : ℕ
Grave = 13

abbrev pub Byte : ℕ
Byte = 14

-- in a definition: `\`newline
abbrev pub Continuation : ℕ
Continuation = 15

-- no token: the text ends
abbrev pub End : ℕ
End = 16

abbrev pub is : ℕ → Token → Bool
is k t = eqb t.kind k

-- a token of kind k from i to before e, barred by n, or by nothing if n is 0
abbrev pub plain : ℕ → ℕ → ℕ → ℕ → Token
plain k i e n = record { kind = k; at = i; from = i; end = e; bar = n }

-- a token with a name, which starts at `from`; 6: "name over 1,024 bytes"; n: what bars it before
abbrev pub named : ℕ → ℕ → ℕ → ℕ → ℕ → Token
named k i from e n =
    record { kind = k; at = i; from = from; end = e; bar = cond (eqb n 0) (cond (ltb 1024 (e - from)) 6 0) n }

abbrev pub scanned : ℕ → ℕ → Scan → Token
scanned k i r = plain k i r.end r.bar

-- "escaped name (`\` and at least one byte, up to white space, or to a `\` just before a newline)", its `\` before
-- `from`; else the one byte, barred by n
abbrev pub escaped_or : ℕ → ℕ → ℕ → ℕ → Scan → Token
escaped_or k i from n r =
    cond (eqb r.end from) (plain Byte i (i + 1) n)
    (named k i from r.end r.bar)

-- 5: "three `"` in a row where a string would begin"
unfoldable pub string_token : List ℕ → ℕ → Token
string_token s i =
    cond (eqb (get_or s (i + 1) 0) 34 && eqb (get_or s (i + 2) 0) 34) (plain String i (i + 3) 5)
    (scanned String i (string_end s (i + 1)))

unfoldable pub slash_token : Mode → List ℕ → ℕ → Token
slash_token m s i =
    cond m.marks (plain Byte i (i + 1) 0)
    (cond (eqb (get_or s (i + 1) 0) 47) (scanned LineComment i (span_end false m.define s (i + 2)))
    (cond (eqb (get_or s (i + 1) 0) 42) (scanned BlockComment i (block_end s (i + 2)))
    (plain Byte i (i + 1) 0)))

unfoldable pub backslash_token : Mode → List ℕ → ℕ → Token
backslash_token m s i =
    cond (m.define && eqb (get_or s (i + 1) 0) 10) (plain Continuation i (i + 2) 0)
    (cond m.marks (plain Byte i (i + 1) 0)
    (escaped_or Escaped i (i + 1) 0 (span_end true true s (i + 1))))

-- past a base letter at j and its digits
unfoldable pub digits_token : List ℕ → ℕ → ℕ → Token
digits_token s i j =
    cond (is_base (get_or s j 0)) (plain Based i (run_end 63 s (j + 1)) 0)
    (plain Byte i (i + 1) 0)

-- "apostrophe, optional `s` or `S`, one of `bBoOdDhH`, and a run of letters, digits, `_`, `?`"
unfoldable pub based_token : List ℕ → ℕ → Token
based_token s i = cond (is_sign (get_or s (i + 1) 0)) (digits_token s i (i + 2)) (digits_token s i (i + 1))

-- past "`\": "an escaped quote mark always", else an escaped name
unfoldable pub escaped_grave : Mode → List ℕ → ℕ → Token
escaped_grave m s i =
    cond (eqb (get_or s (i + 2) 0) 96 && eqb (get_or s (i + 3) 0) 34) (plain EscapedQuote i (i + 4) (mark_bar m))
    (cond m.marks (plain Byte i (i + 1) 4)
    (escaped_or Grave i (i + 2) 4 (span_end true true s (i + 2))))

-- 4: "grave accent beginning no token"
unfoldable pub grave_token : Mode → List ℕ → ℕ → Token
grave_token m s i =
    cond (is_start (get_or s (i + 1) 0)) (named Grave i (i + 1) (run_end 36 s (i + 2)) 0)
    (cond (eqb (get_or s (i + 1) 0) 34) (plain Quote i (i + 2) (mark_bar m))
    (cond (eqb (get_or s (i + 1) 0) 96) (plain Joiner i (i + 2) (mark_bar m))
    (cond (eqb (get_or s (i + 1) 0) 92) (escaped_grave m s i)
    (plain Byte i (i + 1) 4))))

-- a token that begins with b, none of those below
unfoldable pub sign_token : Mode → List ℕ → ℕ → ℕ → Token
sign_token m s i b =
    cond (eqb b 34) (string_token s i)
    (cond (eqb b 47) (slash_token m s i)
    (cond (eqb b 92) (backslash_token m s i)
    (cond (eqb b 39) (based_token s i)
    (cond (eqb b 96) (grave_token m s i)
    (plain Byte i (i + 1) (cond (is_legal b) 0 2))))))

-- the token at i, or End
unfoldable pub token_at : Mode → List ℕ → ℕ → Token
token_at m s i =
    cond (leb (length s) i) (plain End i i 0)
    (cond (is_white (get_or s i 0)) (plain White i (i + 1) 0)
    (cond (is_start (get_or s i 0)) (named Name i i (run_end 36 s (i + 1)) 0)
    (cond (is_digit (get_or s i 0)) (plain Number i (run_end 36 s (i + 1)) 0)
    (cond (eqb (get_or s i 0) 10) (plain Newline i (i + 1) 0)
    (cond (eqb (get_or s i 0) 36) (plain Dollar i (run_end 36 s (i + 1)) 0)
    (sign_token m s i (get_or s i 0)))))))

-- a token's name, without grave accent and `\`
abbrev pub name_of : List ℕ → Token → List ℕ
name_of s t = part s t.from t.end

-- a token of the one byte b
abbrev pub is_byte : List ℕ → ℕ → Token → Bool
is_byte s b t = is Byte t && eqb (get_or s t.at 0) b

-- spacing: "white bytes or comments between words"; in a definition also `\`newline
abbrev pub is_gap : Token → Bool
is_gap t = is White t || (is LineComment t || (is BlockComment t || is Continuation t))

-- a joiner or either quote mark, barred by `markBar`
abbrev pub is_mark : Token → Bool
is_mark t = is Quote t || (is EscapedQuote t || is Joiner t)

-- in macro text: whether what stands past a token is between quote marks
abbrev pub marks_after : Bool → Token → Bool
marks_after b t = cond (is Quote t) (not b) b

-- the mode past a token
abbrev pub mode_after : Mode → Token → Mode
mode_after m t = cond (is Quote t) (turned m) m

-- the tokens from i on; of a definition "up to, not including, the newline that ends it"; n: fuel
unfoldable pub tokens_from : ℕ → Mode → List ℕ → ℕ → List Token
tokens_from zero m s i = []
tokens_from (suc n) m s i =
    let t = token_at m s i in
    let r = tokens_from n (mode_after m t) s t.end in
    cond (leb (length s) i || (m.define && is Newline t)) [] (t ∷ r)

unfoldable pub tokens : Mode → List ℕ → ℕ → List Token
tokens m s i = tokens_from (length s - i) m s i
