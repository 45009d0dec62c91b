-- Where a run stands in the code's buffers, and what a step of it does.
-- Assumes nothing.
use Rattle.std.specs.Prelude.{ℕ, zero, suc, max, ◌+◌, ◌-◌, ◌<◌, ◌≤◌, true, false, cond, ◌≡◌, List, [], ◌∷◌, eqb, length, get_or}
use Rattle.lex.specs.Tokens.{in_file, token_at}
use Rattle.lex.specs.declared.Token.{Token}
use Rattle.names.specs.Names.{FileWord, LineWord}
use Rattle.definition.specs.Definitions.{Macro}
use Rattle.store.specs.Buffers.{Holds}
use Rattle.writing.specs.Buffers.{room_of, Puts}
use Rattle.writing.specs.declared.Spot.{Spot}
use Rattle.places.specs.Places.{place_of}
use Rattle.blocks.specs.Stacks.{open_in, BlocksIn}
use Rattle.blocks.specs.declared.Blocks.{Blocks}
use Rattle.expand.specs.declared.Expanded.{Expanded}
use Rattle.expand.specs.Standing.{Lends, Within}
use Rattle.handover.specs.Entries.{all_entries, body_of}
use Rattle.copying.specs.Cursors.{opening}
use Rattle.copying.specs.Copying.{Reads, Copyable}
use Rattle.copying.specs.declared.Cursor.{Cursor}
use Rattle.turns.specs.States.{Context, Frame, State, Made, Turn, more, stop, finished, Here, go_to}
use Rattle.turns.specs.Acts.{Act, leaves, spells, refuses_here, file_word, line_word}
use Rattle.turns.specs.Performing.{perform}
use Rattle.turns.specs.Turns.{here_at}
use Rattle.steps.specs.declared.stage.Stage.{Stage}
use Rattle.steps.specs.declared.stage.Step.{Step}
use Rattle.steps.specs.declared.stage.Step.TheVariants as step

-- the lent buffers that a run writes or reads back
pub record Bufs : Type 0 where
  pub text : List ℕ
  pub map : List ℕ
  pub bytes : List ℕ
  pub records : List (List ℕ)
  pub frames : List (List ℕ)
  pub conds : List (List ℕ)

abbrev pub bufs : List ℕ → List ℕ → List ℕ → List (List ℕ) → List (List ℕ) → List (List ℕ) → Bufs
bufs t m b r f c = record { text = t; map = m; bytes = b; records = r; frames = f; conds = c }

abbrev pub blank_frame : List ℕ
blank_frame = 0 ∷ 0 ∷ 0 ∷ []

-- an open file but the innermost, of three numbers: it goes on behind an include
abbrev pub frame_in : List ℕ → Frame
frame_in v =
    record { file = get_or v 0 0; cursor = record { at = get_or v 1 0; line = get_or v 2 0; other = true; comment = false } }

-- the first n of w, innermost first
unfoldable pub outer_frames : List (List ℕ) → ℕ → List Frame
outer_frames w zero = []
outer_frames w (suc n) = frame_in (get_or w n blank_frame) ∷ outer_frames w n

abbrev pub open_frames : List (List ℕ) → ℕ → ℕ → Cursor → List Frame
open_frames w zero file c = []
open_frames w (suc n) file c = record { file = file; cursor = c } ∷ outer_frames w n

-- the state that a stage stands for, with the macros ms
abbrev pub state_of : ℕ → Bufs → List Macro → Stage → State
state_of limit B ms z =
    record {
      frames = open_frames B.frames z.depth z.file z.cursor;
      conds = open_in B.conds z.blocks.open;
      macros = ms;
      settings = z.settings;
      room = room_of (length B.text) (length B.map) z.spot;
      left = limit - z.count;
    }

-- the token at its cursor
abbrev pub here_of : Context → ℕ → Bufs → List Macro → Stage → Here
here_of x limit B ms z =
    here_at x (state_of limit B ms z) (record { file = z.file; cursor = z.cursor }) (outer_frames B.frames (z.depth - 1))

abbrev pub ended_at : Stage → ℕ → ℕ → ℕ → Step
ended_at z n f p = step.Ended z n f p

abbrev pub with_cursor : Stage → Cursor → Stage
with_cursor z c =
    record {
      depth = z.depth;
      file = z.file;
      cursor = c;
      blocks = z.blocks;
      macros = z.macros;
      settings = z.settings;
      spot = z.spot;
      count = z.count;
      deepest = z.deepest;
    }

abbrev pub with_spot : Stage → Spot → Stage
with_spot z y =
    record {
      depth = z.depth;
      file = z.file;
      cursor = z.cursor;
      blocks = z.blocks;
      macros = z.macros;
      settings = z.settings;
      spot = y;
      count = z.count;
      deepest = z.deepest;
    }

abbrev pub entered_at : Stage → ℕ → Stage
entered_at z i =
    record {
      depth = z.depth + 1;
      file = i;
      cursor = opening;
      blocks = z.blocks;
      macros = z.macros;
      settings = z.settings;
      spot = z.spot;
      count = z.count;
      deepest = z.deepest;
    }

abbrev pub expanded_to : Stage → Expanded → Stage
expanded_to z r =
    record {
      depth = z.depth;
      file = z.file;
      cursor = z.cursor;
      blocks = z.blocks;
      macros = z.macros;
      settings = z.settings;
      spot = r.spot;
      count = r.count;
      deepest = r.deepest;
    }

abbrev pub reached_at : Stage → Cursor → Spot → Blocks → Stage
reached_at z c y k =
    record {
      depth = z.depth;
      file = z.file;
      cursor = c;
      blocks = k;
      macros = z.macros;
      settings = z.settings;
      spot = y;
      count = z.count;
      deepest = z.deepest;
    }

-- an open file's place is one
pub record FrameOk (store : List ℕ) (table : List (List ℕ)) (v : List ℕ) : Type 0 where
  pub file_in : get_or v 0 0 < length table
  pub inside : get_or v 1 0 ≤ length (body_of store table (get_or v 0 0))
  pub line_small : get_or v 2 0 ≤ get_or v 1 0 + 1

-- a stage of the files in which all numbers are as they should be
pub record Ok (store : List ℕ) (table : List (List ℕ)) (B : Bufs) (z : Stage) : Type 0 where
  pub few_files : z.depth ≤ 16
  pub file_in : z.file < length table
  pub copyable : Copyable (body_of store table z.file) (place_of z.file 0) B.text B.map z.cursor z.spot
  pub outer : (k : ℕ) → suc k < z.depth → FrameOk store table (get_or B.frames k blank_frame)
  pub frames_lent : 16 ≤ length B.frames
  pub blocks_are : BlocksIn B.conds z.blocks
  pub few_macros : z.macros ≤ 256

-- what is fixed while a run lasts
pub record Fixed (x : Context) (store : List ℕ) (table : List (List ℕ)) (set : ℕ) (B : Bufs) : Type 0 where
  pub store_is : x.store ≡ store
  pub table_is : x.table ≡ table
  pub set_is : x.set ≡ set
  pub records_are : x.records ≡ length B.records
  pub bytes_are : x.bytes ≡ length B.bytes
  pub entries : all_entries store table ≡ true
  pub few_entries : length table ≤ 64
  pub bytes_small : length B.bytes ≤ 65536

-- the token t of the file s at the cursor of a stage
pub record At (store : List ℕ) (table : List (List ℕ)) (s : List ℕ) (t : Token) (z : Stage) : Type 0 where
  pub open_file : 0 < z.depth
  pub body_is : body_of store table z.file ≡ s
  pub token_is : token_at in_file s z.cursor.at ≡ t

-- the step took the turn u and led to another stage, with the macros then
pub record Moves (limit : ℕ) (B B' : Bufs) (z z' : Stage) (u : Turn) : Type 0 where
  pub macros : List Macro
  pub made : Made
  pub turn_is : u ≡ more (state_of limit B' macros z') made
  pub holds : Holds macros B'.bytes B'.records z'.macros
  pub puts : Puts made.text B.text B'.text B.map B'.map z.spot z'.spot
  pub count_is : z'.count ≡ z.count + made.count
  pub deepest_is : z'.deepest ≡ max z.deepest made.depth

-- the turn u is a refusal, or the end where n is 0
abbrev pub is_end : ℕ → ℕ → ℕ → Made → Turn
is_end zero f p m = finished
is_end (suc n) f p m = stop (suc n) f p m

-- the step ended the run: what was written before stands, and the macros and the directive state are as they were
pub record Stops (B B' : Bufs) (ms : List Macro) (z z' : Stage) (n f p : ℕ) (u : Turn) : Type 0 where
  pub made : Made
  pub turn_is : u ≡ is_end n f p made
  pub holds : Holds ms B'.bytes B'.records z'.macros
  pub settings_same : z'.settings ≡ z.settings
  pub puts : Puts made.text B.text B'.text B.map B'.map z.spot z'.spot
  pub count_is : z'.count ≡ z.count + made.count
  pub deepest_is : z'.deepest ≡ max z.deepest made.depth

abbrev pub SteppedBy : Step → List ℕ → List (List ℕ) → ℕ → Bufs → Bufs → List Macro → Stage → Turn → Type 0
SteppedBy (step.On z') store table limit B B' ms z u = Moves limit B B' z z' u × Ok store table B' z'
SteppedBy (step.Ended z' n f p) store table limit B B' ms z u = Stops B B' ms z z' n f p u

-- the step took the turn u of the token here, in every context and with all macros that the buffers hold
abbrev pub Steps : Step → List ℕ → List (List ℕ) → ℕ → ℕ → Bufs → Bufs → Stage → (Here → Turn) → Type 0
Steps r store table set limit B B' z u =
    (x : Context) (ms : List Macro) → Fixed x store table set B → Ok store table B z → Holds ms B.bytes B.records z.macros
    → SteppedBy r store table limit B B' ms z (u (here_of x limit B ms z))

-- the step carried out the act a of the token here
abbrev pub Performed : Step → Context → List ℕ → List (List ℕ) → ℕ → Bufs → Bufs → List Macro → Stage → (Here → Act) → Type 0
Performed r x store table limit B B' ms z a = let h = here_of x limit B ms z in SteppedBy r store table limit B B' ms z (perform h (a h))

-- .. in every context and with all macros that the buffers hold, where t of the file s is that token
abbrev pub Performs : Step → List ℕ → List (List ℕ) → ℕ → ℕ → List ℕ → Token → Bufs → Bufs → Stage → (Here → Act) → Type 0
Performs r store table set limit s t B B' z a = At store table s t z → Steps r store table set limit B B' z (λ h. perform h (a h))

-- .. and changed no buffer but the macros
abbrev pub MacrosBy : Step → List ℕ → Token → List ℕ → List ℕ → List (List ℕ) → List (List ℕ) → Stage → (Here → Act) → Type 0
MacrosBy r s t bs bs' rs rs' z a =
    (store : List ℕ) (table : List (List ℕ)) (set limit : ℕ) (tx mp : List ℕ) (fr cd : List (List ℕ))
    → Performs r store table set limit s t (bufs tx mp bs rs fr cd) (bufs tx mp bs' rs' fr cd) z a

-- .. but the open files
abbrev pub FramesBy : Step → List ℕ → List (List ℕ) → List ℕ → Token → List (List ℕ) → List (List ℕ) → Stage → (Here → Act) → Type 0
FramesBy r store table s t fr fr' z a =
    (set limit : ℕ) (tx mp bs : List ℕ) (rs cd : List (List ℕ))
    → Performs r store table set limit s t (bufs tx mp bs rs fr cd) (bufs tx mp bs rs fr' cd) z a

-- .. but text and map, with these macros
abbrev pub WritesOver : Step → List ℕ → List (List ℕ) → ℕ → ℕ → List ℕ → Token → List ℕ → List (List ℕ) → List ℕ → List ℕ → List ℕ → List ℕ → Stage → (Here → Act) → Type 0
WritesOver r store table set limit s t bs rs tx tx' mp mp' z a =
    (fr cd : List (List ℕ)) → Performs r store table set limit s t (bufs tx mp bs rs fr cd) (bufs tx' mp' bs rs fr cd) z a

-- .. with any macros
abbrev pub WritesBy : Step → List ℕ → List (List ℕ) → ℕ → ℕ → List ℕ → Token → List ℕ → List ℕ → List ℕ → List ℕ → Stage → (Here → Act) → Type 0
WritesBy r store table set limit s t tx tx' mp mp' z a =
    (bs : List ℕ) (rs : List (List ℕ)) → WritesOver r store table set limit s t bs rs tx tx' mp mp' z a

-- a step out of the innermost file
abbrev pub LeftBy : Step → List (List ℕ) → Stage → Type 0
LeftBy r fr z =
    (store : List ℕ) (table : List (List ℕ)) (set limit : ℕ) (tx mp bs : List ℕ) (rs cd : List (List ℕ))
    → Steps r store table set limit (bufs tx mp bs rs fr cd) (bufs tx mp bs rs fr cd) z (λ h. go_to h h.others h.state.conds h.state.macros)

-- .. at its end, where a newline may be written first
abbrev pub LeavesBy : Step → List (List ℕ) → List ℕ → List ℕ → List ℕ → List ℕ → Stage → Type 0
LeavesBy r fr tx tx' mp mp' z =
    (store : List ℕ) (table : List (List ℕ)) (set limit : ℕ) (bs : List ℕ) (rs cd : List (List ℕ))
    → Steps r store table set limit (bufs tx mp bs rs fr cd) (bufs tx' mp' bs rs fr cd) z (λ h. perform h leaves)

-- `__FILE__`, `__LINE__` or a refused directive
abbrev pub place_act : ℕ → Here → Act
place_act d h = cond (eqb d FileWord) (spells (file_word h)) (cond (eqb d LineWord) (spells (line_word h)) (refuses_here h 7))

-- what is lent to write the name of a file and the number of a line
pub record PlaceLent (store : List ℕ) (table : List (List ℕ)) (s quoted decimal text map : List ℕ) (z : Stage) : Type 0 where
  pub file_in : z.file < length table
  pub few_entries : length table ≤ 64
  pub entries : all_entries store table ≡ true
  pub reads : Reads s 0 z.cursor
  pub quoted_lent : 257 ≤ length quoted
  pub decimal_lent : 6 ≤ length decimal
  pub spot : Within text map z.spot

-- .. and to a usage
pub record UsageLent (store : List ℕ) (table : List (List ℕ)) (s : List ℕ) (t : Token) (b : List ℕ) (r list out ranges : List (List ℕ)) (stack work quoted decimal text map : List ℕ) (z : Stage) : Type 0 where
  pub place : PlaceLent store table s quoted decimal text map z
  pub inside : t.end ≤ length s
  pub lends : Lends s b r z.macros list out ranges stack
  pub work_lent : 65539 ≤ length work
