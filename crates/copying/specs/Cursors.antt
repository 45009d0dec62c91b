-- Where a file is read, and where behind a token.
-- Assumes nothing.
use Rattle.std.specs.Prelude.{ℕ, ◌+◌, Bool, true, false, cond, not, ◌&&◌, ◌||◌, List, eqb, leb, length}
use Rattle.text.specs.Bytes.{part}
use Rattle.lex.specs.Classes.{is_white}
use Rattle.lex.specs.Tokens.{White, Newline, LineComment, BlockComment, String, Grave, End, is}
use Rattle.lex.specs.declared.Token.{Token}
use Rattle.places.specs.Places.{newlines}
use Rattle.copying.specs.declared.Cursor.{Cursor}

-- a file's start
abbrev pub opening : Cursor
opening = record { at = 0; line = 1; other = false; comment = false }

-- a token that is neither copied nor skipped: a directive or usage, the end, or one that 2 to 6 bar
abbrev pub stops_at : Token → Bool
stops_at t = is Grave t || (is End t || not (eqb t.bar 0))

-- white bytes and comments
abbrev pub is_gap_kind : ℕ → Bool
is_gap_kind k = eqb k White || (eqb k LineComment || eqb k BlockComment)

-- the kinds of tokens that may hold a newline
abbrev pub may_wrap : ℕ → Bool
may_wrap k = eqb k Newline || (eqb k String || eqb k BlockComment)

-- `%` and `&`, `(` to `.`, `:` to `@`, `[`, `]` and `^`
abbrev pub is_mark : ℕ → Bool
is_mark b = (leb 37 b && leb b 38) || ((leb 40 b && leb b 46) || ((leb 58 b && leb b 64) || (eqb b 91 || (leb 93 b && leb b 94))))

-- bytes that are always tokens of their own and that nothing bars
abbrev pub is_single : ℕ → Bool
is_single b = (is_white b || eqb b 10) || is_mark b

-- the newlines of a token
abbrev pub lines_of : List ℕ → Token → ℕ
lines_of s t = newlines (part s t.at t.end)

-- whether "other text" than white bytes and comments stands on the line behind a token (refusal 9)
abbrev pub other_after : List ℕ → Token → Bool → Bool
other_after s t other =
    cond (is Newline t || (is BlockComment t && not (eqb (lines_of s t) 0))) false
    (cond (is_gap_kind t.kind) other
    true)

-- behind a token that is copied, or skipped; "A file that ends in a copied `//` comment gets a newline written"
unfoldable pub cursor_past : List ℕ → Bool → Token → Cursor → Cursor
cursor_past s copied t c =
    record {
      at = t.end;
      line = c.line + lines_of s t;
      other = other_after s t c.other;
      comment = copied && (is LineComment t && eqb t.end (length s));
    }

-- behind a directive or usage that ends at e
unfoldable pub cursor_behind : List ℕ → ℕ → Cursor → Cursor
cursor_behind s e c = record { at = e; line = c.line + newlines (part s c.at e); other = true; comment = false }
