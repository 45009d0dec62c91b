-- Pending tokens (01, "Replacing"): a token with its set of macros, and what replacing asks of it.
-- Assumes nothing.
use Rattle.std.specs.Prelude.{ℕ, Bool, true, false, cond, ◌||◌, List, [], ◌∷◌, eqb, get_or}
use Rattle.text.specs.Bytes.{part}
use Rattle.lex.specs.Tokens.{in_file, White, Newline, LineComment, BlockComment, Name, Escaped, Quote, Grave, Byte, name_of, tokens}
use Rattle.lex.specs.declared.Token.{Token}
use Rattle.names.specs.Names.{is_directive, bars_text}

-- "Each token carries a set of macros", these by their numbers in the store, ascending; in a file also where it starts and
-- what bars it
pub record Pending : Type 0 where
  pub kind : ℕ
  pub bytes : List ℕ
  pub name : List ℕ
  pub own : List ℕ
  pub at : ℕ
  pub bar : ℕ

-- a token of the file s: it comes out of no macro
abbrev pub file_token : List ℕ → Token → Pending
file_token s t =
    record { kind = t.kind; bytes = part s t.at t.end; name = name_of s t; own = []; at = t.at; bar = t.bar }

unfoldable pub file_tokens : List ℕ → List Token → List Pending
file_tokens s [] = []
file_tokens s (t ∷ ts) = file_token s t ∷ file_tokens s ts

-- the tokens of the file s from i on
unfoldable pub file_from : List ℕ → ℕ → List Pending
file_from s i = file_tokens s (tokens in_file s i)

-- a token of a stored text or default s with the set; 2 to 6 bar none: a definition that stores such a text is bad
abbrev pub text_token : List ℕ → List ℕ → Token → Pending
text_token s set t = record { kind = t.kind; bytes = part s t.at t.end; name = name_of s t; own = set; at = 0; bar = 0 }

unfoldable pub text_tokens : List ℕ → List ℕ → List Token → List Pending
text_tokens s set [] = []
text_tokens s set (t ∷ ts) = text_token s set t ∷ text_tokens s set ts

-- all that replacing asks of a token
pub data View : Type 0 where
  blanks : View  -- "white space, newlines and comments"
  calls : List ℕ → View  -- a usage of that name
  names : List ℕ → View  -- "Plain and escaped names"
  opens : ℕ → View  -- an opening bracket, by its closing one
  closes : ℕ → View
  commas : View
  bars : ℕ → ℕ → View  -- refused in a list: 14, or 2 to 6 with the token's place
  plain : View

-- what f gives for the name of a usage, `other` for any other token
abbrev pub on_usage : {A : Type 0} → View → A → (List ℕ → A) → A
on_usage blanks other f = other
on_usage (calls w) other f = f w
on_usage (names w) other f = other
on_usage (opens c) other f = other
on_usage (closes b) other f = other
on_usage commas other f = other
on_usage (bars n i) other f = other
on_usage plain other f = other

-- .. for a plain or escaped name
abbrev pub on_name : {A : Type 0} → View → A → (List ℕ → A) → A
on_name blanks other f = other
on_name (calls w) other f = other
on_name (names w) other f = f w
on_name (opens c) other f = other
on_name (closes b) other f = other
on_name commas other f = other
on_name (bars n i) other f = other
on_name plain other f = other

-- whether a token is a usage
abbrev pub is_call : View → Bool
is_call v = on_usage v false (λ w. true)

-- whether a token is refused in a list
abbrev pub is_barred : View → Bool
is_barred blanks = false
is_barred (calls w) = false
is_barred (names w) = false
is_barred (opens c) = false
is_barred (closes b) = false
is_barred commas = false
is_barred (bars n i) = true
is_barred plain = false

abbrev pub byte_view : ℕ → View
byte_view b =
    cond (eqb b 40) (opens 41)
    (cond (eqb b 91) (opens 93)
    (cond (eqb b 123) (opens 125)
    (cond (eqb b 41 || (eqb b 93 || eqb b 125)) (closes b)
    (cond (eqb b 44) commas
    plain))))

-- 14: "directive (not the two `__` words) .. in a list"; "A usage is a grave accent name other than a directive's"
abbrev pub grave_view : List ℕ → View
grave_view w = cond (bars_text w) (bars 14 0) (cond (is_directive w) plain (calls w))

abbrev pub is_spacing : ℕ → Bool
is_spacing k = eqb k White || eqb k Newline

abbrev pub is_comment : ℕ → Bool
is_comment k = eqb k LineComment || eqb k BlockComment

abbrev pub is_blank : ℕ → Bool
is_blank k = is_spacing k || is_comment k

-- by its kind, its first byte and its name; 14: "quote mark in a list"
unfoldable pub kind_view : ℕ → ℕ → List ℕ → View
kind_view k b w =
    cond (is_blank k) blanks
    (cond (eqb k Name || eqb k Escaped) (names w)
    (cond (eqb k Quote) (bars 14 0)
    (cond (eqb k Grave) (grave_view w)
    (cond (eqb k Byte) (byte_view b)
    plain))))

unfoldable pub view : Pending → View
view p = cond (eqb p.bar 0) (kind_view p.kind (get_or p.bytes 0 0) p.name) (bars p.bar p.at)
