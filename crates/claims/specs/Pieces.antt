-- What the text is made of: pieces, each with the place that it comes from.
-- Assumes nothing.
use Rattle.std.specs.Prelude.{ℕ, true, false, ◌&&◌, ◌≡◌, leb, length}
use Rattle.std.proofs.Math.Option.{some}
use mathlib.Core.List.{List, [], ◌∷◌, ◌++◌, Memᴰ as In}
use Rattle.text.specs.Bytes.{part}
use Rattle.lex.specs.Tokens.{in_file, in_text, LineComment, Grave, is, tokens}
use Rattle.lex.specs.declared.Token.{Token}
use Rattle.names.specs.Names.{FileWord, LineWord, Define, Resetall, EndKeywords, directive_of}
use Rattle.directive.specs.declared.Value.{Value}
use Rattle.directive.specs.declared.Form.TheVariants.{Formed}
use Rattle.directive.specs.Forms.{form_at}
use Rattle.definition.specs.Definitions.{Parameter, parameter, Macro, macro, good, definition_at}
use Rattle.places.specs.Places.{quoted, decimal, line_at, place_of}
use Rattle.pending.specs.Pending.{Pending, file_token, text_token, is_call, is_barred, view}
use Rattle.replace.specs.Tidying.{cleaned}
use Rattle.expand.specs.Expanding.{Outer, writes}
use Rattle.handover.specs.Entries.{name_of as entryNamed}
use Rattle.turns.specs.States.{Context}
use Rattle.turns.specs.Files.{file_of, token_in, Read, Accented}

-- a macro that a `define` at p of file i gives
pub record Defined (x : Context) (m : Macro) : Type 0 where
  pub file : ℕ
  pub at : ℕ
  pub end : ℕ
  pub accented : Accented x file at Define
  pub gives : definition_at (file_of x file) (token_in x file at).end ≡ good m end

-- the outermost usage at p of file i
abbrev pub outer_at : Context → ℕ → ℕ → Outer
outer_at x i p =
    record {
      file = quoted (entryNamed x.store x.table i);
      line = decimal 6 (line_at (file_of x i) p);
      place = place_of i (line_at (file_of x i) p);
    }

-- a pending token of the expansion of a usage in file i: of its list there, of a macro's text, or of a default; an argument's is
-- tidied
pub data Source (x : Context) (i : ℕ) : Pending → Type 0 where
  of_list : (p : ℕ) → Read x i p → is_barred (view (file_token (file_of x i) (token_in x i p))) ≡ false
      → Source x i (file_token (file_of x i) (token_in x i p))
  of_text : {n w : List ℕ} {fs : List Parameter} (set : List ℕ) (t : Token) → Defined x (macro n fs w) → In t (tokens in_text w 0)
      → Source x i (text_token w set t)
  of_default : {n w f d : List ℕ} {fs : List Parameter} (set : List ℕ) (t : Token) → Defined x (macro n fs w)
      → In (parameter f (some d)) fs → In t (tokens in_file d 0) → Source x i (text_token d set t)
  tidied : {p : Pending} → Source x i p → Source x i (cleaned p)

-- a directive that is "copied as written", from its grave accent to its end
pub data Kept (x : Context) : List ℕ → Type 0 where
  directive : (i p d e : ℕ) (v : Value) → Accented x i p d → (leb Resetall d && leb d EndKeywords) ≡ true
      → form_at d (file_of x i) (token_in x i p).end ≡ Formed v e → Kept x (part (file_of x i) (token_in x i p).at e)

-- what one of the two `__` words in a file writes: "the quoted entry name and the decimal line"
pub data Word (x : Context) : List ℕ → Type 0 where
  file_word : (i p : ℕ) → Accented x i p FileWord → Word x (quoted (entryNamed x.store x.table i))
  line_word : (i p : ℕ) → Accented x i p LineWord → Word x (decimal 6 (line_at (file_of x i) p))

-- a piece of the text:
-- a token of a file as it stands there, no grave accent name;
-- a directive that is copied;
-- the newline behind a file that ends in a `//` comment;
-- one of the two `__` words;
-- a token of an expansion, no usage
pub data Piece (x : Context) : List ℕ → Type 0 where
  copied : (i p : ℕ) → Read x i p → is Grave (token_in x i p) ≡ false → Piece x (part (file_of x i) p (token_in x i p).end)
  kept : {b : List ℕ} → Kept x b → Piece x b
  newline : (i p : ℕ) → Read x i p → is LineComment (token_in x i p) ≡ true → (token_in x i p).end ≡ length (file_of x i)
      → Piece x (10 ∷ [])
  word : {w : List ℕ} → Word x w → Piece x w
  expanded : (i p : ℕ) (q : Pending) → Accented x i p 0 → Source x i q → is_call (view q) ≡ false → Piece x (writes (outer_at x i p) q)

-- pieces one behind the other
pub data Pieces (x : Context) : List ℕ → Type 0 where
  none : Pieces x []
  then : {b bs : List ℕ} → Piece x b → Pieces x bs → Pieces x (b ++ bs)

-- a grave accent name that an expansion writes is one of the two `__` words, and writes what the outermost usage gives it
pub data Worded (o : Outer) (q : Pending) : Type 0 where
  as_file : directive_of q.name ≡ FileWord → writes o q ≡ o.file → Worded o q
  as_line : directive_of q.name ≡ LineWord → writes o q ≡ o.line → Worded o q
