-- A run over files: its state, and what a turn gives.
-- Assumes nothing.
use Rattle.std.specs.Prelude.{ℕ, ◌-◌, ◌+◌, Bool, true, false, cond, List, [], ◌∷◌, length}
use Rattle.lex.specs.declared.Token.{Token}
use Rattle.definition.specs.Definitions.{Macro}
use Rattle.settings.specs.declared.Settings.{Settings}
use Rattle.writing.specs.Written.{Written, map_of, fresh_after, Room, Put, full, fitted, put_in}
use Rattle.places.specs.Places.{place_of}
use Rattle.blocks.specs.Blocks.{Conditional}
use Rattle.copying.specs.declared.Cursor.{Cursor}
use Rattle.copying.specs.Cursors.{cursor_behind}

-- what a run does not change: the byte store and include table, the starting keyword set, the room for macros
pub record Context : Type 0 where
  pub store : List ℕ
  pub table : List (List ℕ)
  pub set : ℕ
  pub records : ℕ
  pub bytes : ℕ

-- a file that is being read
pub record Frame : Type 0 where
  pub file : ℕ
  pub cursor : Cursor

pub record State : Type 0 where
  pub frames : List Frame  -- innermost first
  pub conds : List Conditional  -- the open ones, innermost first
  pub macros : List Macro
  pub settings : Settings
  pub room : Room
  pub left : ℕ  -- replacements left to the limit

-- what a turn writes, the replacements and the deepest set of it
pub record Made : Type 0 where
  pub text : List Written
  pub count : ℕ
  pub depth : ℕ

abbrev pub nothing : Made
nothing = record { text = []; count = 0; depth = 0 }

abbrev pub writes : List Written → Made
writes ws = record { text = ws; count = 0; depth = 0 }

pub data Turn : Type 0 where
  more : State → Made → Turn
  stop : ℕ → ℕ → ℕ → Made → Turn  -- refusal number, file, byte
  finished : Turn

-- the token t at the cursor of the innermost file, whose bytes are s
pub record Here : Type 0 where
  pub context : Context
  pub state : State
  pub frame : Frame
  pub others : List Frame
  pub body : List ℕ
  pub token : Token

abbrev pub refuse_at : Here → ℕ → ℕ → Turn
refuse_at h n p = stop n h.frame.file p nothing

-- "The place is where the token, directive or usage starts"
abbrev pub refuse : Here → ℕ → Turn
refuse h n = refuse_at h n h.token.at

-- the frames with the innermost at another cursor
abbrev pub frames_at : Here → Cursor → List Frame
frames_at h c = record { file = h.frame.file; cursor = c } ∷ h.others

-- .. behind a directive or usage that ends at e
abbrev pub behind : Here → ℕ → List Frame
behind h e = frames_at h (cursor_behind h.body e h.frame.cursor)

-- a turn that writes nothing, to these frames, conditionals and macros
abbrev pub go_to : Here → List Frame → List Conditional → List Macro → Turn
go_to h fs cs ms =
    more
    (record { frames = fs; conds = cs; macros = ms; settings = h.state.settings; room = h.state.room; left = h.state.left })
    nothing

-- one token written, to these frames and settings: "Writing: 19, 20"
abbrev pub on_put : Here → List Written → List Frame → Settings → Put → Turn
on_put h ws fs c (full n) = refuse h n
on_put h ws fs c (fitted r) =
    more
    (record { frames = fs; conds = h.state.conds; macros = h.state.macros; settings = c; room = r; left = h.state.left })
    (writes ws)

abbrev pub write : Here → List Written → List Frame → Settings → Turn
write h ws fs c = on_put h ws fs c (put_in h.state.room ws)

-- the place of the token as the map has it
abbrev pub place_here : Here → ℕ
place_here h = place_of h.frame.file h.frame.cursor.line

-- the room behind what was written
abbrev pub room_after : Room → List Written → Room
room_after r ws =
    record {
      bytes = r.bytes - length ws;
      lines = r.lines - length (map_of r.fresh ws);
      fresh = fresh_after r.fresh ws;
    }
