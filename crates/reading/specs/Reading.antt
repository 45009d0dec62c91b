-- What is read up to a directive that is no conditional word, a usage or the file's end.
-- Assumes nothing.
use Rattle.std.specs.Prelude.{ℕ, Bool, true, false, ◌&&◌, ◌≡◌, List, leb, length}
use Rattle.lex.specs.Tokens.{name_of}
use Rattle.lex.specs.declared.Token.{Token}
use Rattle.names.specs.Names.{Ifdef, Endif, directive_of}
use Rattle.definition.specs.Definitions.{Macro}
use Rattle.settings.specs.declared.Settings.{Settings}
use Rattle.writing.specs.Written.{Written}
use Rattle.writing.specs.Buffers.{room_of, Puts}
use Rattle.writing.specs.declared.Spot.{Spot}
use Rattle.places.specs.Places.{place_of}
use Rattle.blocks.specs.Stacks.{open_in, BlocksIn}
use Rattle.blocks.specs.declared.Blocks.{Blocks}
use Rattle.copying.specs.Cursors.{stops_at}
use Rattle.copying.specs.Copying.{token_on, Skips, Reads, Copyable, CopiedBy}
use Rattle.copying.specs.declared.Copied.{Copied}
use Rattle.copying.specs.declared.Copied.TheVariants as copied
use Rattle.copying.specs.declared.Cursor.{Cursor}
use Rattle.turns.specs.States.{Context, Frame, stop, nothing}
use Rattle.turns.specs.Turns.{turn_at}
use Rattle.turns.specs.Leading.{Leads, standing}
use Rattle.reading.specs.declared.Reached.{Reached}
use Rattle.reading.specs.declared.Reached.TheVariants as reached

-- tokens were copied in taken text, or skipped
abbrev pub SkippedBy : Copied → List ℕ → ℕ → List ℕ → List ℕ → List ℕ → List ℕ → Cursor → Spot → Type 0
SkippedBy (copied.Upto c' z' t) s base text text' map map' c z =
    Skips s c c' × Reads s base c' × (z' ≡ z) × (text' ≡ text) × (map' ≡ map) × (t ≡ token_on s c') × (stops_at t ≡ true)
SkippedBy (copied.Full c' z' n) s base text text' map map' c z = ⊥

abbrev pub PassedBy : Bool → Copied → List ℕ → ℕ → List ℕ → List ℕ → List ℕ → List ℕ → Cursor → Spot → Type 0
PassedBy true r s base text text' map map' c z = CopiedBy r s base text text' map map' c z
PassedBy false r s base text text' map map' c z = SkippedBy r s base text text' map map' c z

-- turns led from one cursor, spot and open conditionals to others
pub record ReadsTo (s : List ℕ) (file : ℕ) (a : Context) (fs : List Frame) (ms : List Macro) (st : Settings) (left : ℕ) (w w' : List (List ℕ)) (text text' map map' : List ℕ) (c c' : Cursor) (z z' : Spot) (k k' : Blocks) : Type 0 where
  pub written : List Written
  pub leads :
      Leads a (standing fs ms st left file c (open_in w k.open) (room_of (length text) (length map) z)) written
      (standing fs ms st left file c' (open_in w' k'.open) (room_of (length text) (length map) z'))
  pub puts : Puts written text text' map map' z z'

-- where reading stands then, whatever is around
pub record Stays (s : List ℕ) (file : ℕ) (w' : List (List ℕ)) (text' map' : List ℕ) (c' : Cursor) (z' : Spot) (k' : Blocks) : Type 0 where
  pub copyable : Copyable s (place_of file 0) text' map' c' z'
  pub blocks_are : BlocksIn w' k'

-- a token that is no conditional word and that nothing bars; d: its directive
pub record Halts (s : List ℕ) (c' : Cursor) (t : Token) (d : ℕ) : Type 0 where
  pub token_is : t ≡ token_on s c'
  pub stops : stops_at t ≡ true
  pub clear : t.bar ≡ 0
  pub directive_is : d ≡ directive_of (name_of s t)
  pub no_conditional : (leb Ifdef d && leb d Endif) ≡ false

abbrev pub ReachedBy : Reached → List ℕ → ℕ → Context → List Frame → List Macro → Settings → ℕ → List (List ℕ) → List (List ℕ) → List ℕ → List ℕ → List ℕ → List ℕ → Cursor → Spot → Blocks → Type 0
ReachedBy (reached.Upto c' z' k' t d) s file a fs ms st left w w' text text' map map' c z k =
    ReadsTo s file a fs ms st left w w' text text' map map' c c' z z' k k' × Halts s c' t d
ReachedBy (reached.Refused c' z' k' n p) s file a fs ms st left w w' text text' map map' c z k =
    ReadsTo s file a fs ms st left w w' text text' map map' c c' z z' k k'
    × (turn_at a (standing fs ms st left file c' (open_in w' k'.open) (room_of (length text) (length map) z')) ≡ stop n file p nothing)

abbrev pub StaysBy : Reached → List ℕ → ℕ → List (List ℕ) → List ℕ → List ℕ → Type 0
StaysBy (reached.Upto c' z' k' t d) s file w' text' map' = Stays s file w' text' map' c' z' k'
StaysBy (reached.Refused c' z' k' n p) s file w' text' map' = Stays s file w' text' map' c' z' k'
