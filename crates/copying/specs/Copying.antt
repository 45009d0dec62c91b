-- Tokens copied from a file or skipped, one after the other.
-- Assumes nothing.
use Rattle.std.specs.Prelude.{ℕ, ◌+◌, ◌≤◌, true, false, ◌≡◌, List, [], ◌++◌, length}
use Rattle.text.specs.Bytes.{part}
use Rattle.lex.specs.Tokens.{in_file, token_at}
use Rattle.lex.specs.declared.Token.{Token}
use Rattle.writing.specs.Written.{Written, placed, Room, full, fitted, put_in}
use Rattle.writing.specs.Buffers.{room_of, Puts}
use Rattle.writing.specs.declared.Spot.{Spot}
use Rattle.copying.specs.declared.Cursor.{Cursor}
use Rattle.copying.specs.declared.Skipped.{Skipped}
use Rattle.copying.specs.declared.Copied.{Copied}
use Rattle.copying.specs.declared.Copied.TheVariants as copied
use Rattle.copying.specs.Cursors.{stops_at, cursor_past}

-- the token at a cursor, and what it writes as it stands
abbrev pub token_on : List ℕ → Cursor → Token
token_on s c = token_at in_file s c.at

unfoldable pub copy_of : List ℕ → ℕ → Cursor → List Written
copy_of s base c = placed 1 (base + c.line) (part s c.at (token_on s c).end)

-- ws is what the tokens from one cursor to the other write, each of which fits whole
pub data Copies (s : List ℕ) (base : ℕ) : Cursor → Room → List Written → Cursor → Room → Type 0 where
  none : {c : Cursor} {r : Room} → Copies s base c r [] c r
  more : {c c' : Cursor} {r r₁ r' : Room} {ws : List Written} → stops_at (token_on s c) ≡ false
      → put_in r (copy_of s base c) ≡ fitted r₁
      → Copies s base (cursor_past s true (token_on s c) c) r₁ ws c' r'
      → Copies s base c r (copy_of s base c ++ ws) c' r'

-- the tokens from one cursor to the other are skipped
pub data Skips (s : List ℕ) : Cursor → Cursor → Type 0 where
  none : {c : Cursor} → Skips s c c
  more : {c c' : Cursor} → stops_at (token_on s c) ≡ false → Skips s (cursor_past s false (token_on s c) c) c' → Skips s c c'

-- a file of 01's size, its place, a cursor in it; what is lent
pub record Reads (s : List ℕ) (base : ℕ) (c : Cursor) : Type 0 where
  pub small : length s ≤ 65535
  pub place_small : base ≤ 8388608
  pub inside : c.at ≤ length s
  pub line_small : c.line ≤ c.at + 1

pub record Copyable (s : List ℕ) (base : ℕ) (text map : List ℕ) (c : Cursor) (z : Spot) : Type 0 where
  pub reads : Reads s base c
  pub in_text : z.written ≤ length text
  pub in_map : z.lines ≤ length map

-- tokens were copied from a cursor and a spot to others
pub record CopiesTo (s : List ℕ) (base : ℕ) (text text' map map' : List ℕ) (c c' : Cursor) (z z' : Spot) : Type 0 where
  pub written : List Written
  pub copies : Copies s base c (room_of (length text) (length map) z) written c' (room_of (length text) (length map) z')
  pub puts : Puts written text text' map map' z z'
  pub copyable : Copyable s base text' map' c' z'

-- up to a token that is not copied, or one that has no room
abbrev pub CopiedBy : Copied → List ℕ → ℕ → List ℕ → List ℕ → List ℕ → List ℕ → Cursor → Spot → Type 0
CopiedBy (copied.Upto c' z' t) s base text text' map map' c z =
    CopiesTo s base text text' map map' c c' z z' × (t ≡ token_on s c') × (stops_at t ≡ true)
CopiedBy (copied.Full c' z' k) s base text text' map map' c z =
    CopiesTo s base text text' map map' c c' z z' × (stops_at (token_on s c') ≡ false)
    × (put_in (room_of (length text) (length map) z') (copy_of s base c') ≡ full k)

pub record SkipsTo (s : List ℕ) (base : ℕ) (c : Cursor) (r : Skipped) : Type 0 where
  pub skips : Skips s c r.cursor
  pub reads : Reads s base r.cursor
  pub token_is : r.token ≡ token_on s r.cursor
  pub stops : stops_at r.token ≡ true
