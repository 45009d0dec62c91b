-- Flatten's contract: the outcome of a hand-over in lent buffers.
-- Assumes nothing.
use Rattle.std.specs.Prelude.{ℕ, ◌<◌, ◌≤◌, ◌≡◌, true, false, List, ◌++◌, length, drop}
use Rattle.definition.specs.Definitions.{Macro}
use Rattle.store.specs.Stores.{encode}
use Rattle.store.specs.Buffers.{Holds, Stored}
use Rattle.settings.specs.Settings.{reset_to}
use Rattle.copying.specs.Cursors.{opening}
use Rattle.handover.specs.Entries.{all_entries}
use Rattle.handover.specs.Sizes.{HandOver, Rooms, is_sound}
use Rattle.turns.specs.Runs.{Outcome, line_of, ran_over, flattened}
use Rattle.steps.specs.declared.stage.Stage.{Stage}
use Rattle.running.specs.declared.Last.{Last}
use Rattle.flatten.specs.declared.Flattened.{Flattened}

-- the buffers that are lent to flatten
pub record Lent : Type 0 where
  pub text : List ℕ
  pub map : List ℕ
  pub records : List (List ℕ)
  pub bytes : List ℕ

abbrev pub lent : List ℕ → List ℕ → List (List ℕ) → List ℕ → Lent
lent t m r b = record { text = t; map = m; records = r; bytes = b }

abbrev pub rooms_of : Lent → Rooms
rooms_of l =
    record { text = length l.text; map = length l.map; records = length l.records; bytes = length l.bytes }

abbrev pub hand_over : List ℕ → List (List ℕ) → ℕ → List (List ℕ) → ℕ → ℕ → HandOver
hand_over s t root starts set limit =
    record { store = s; table = t; root = root; starts = starts; set = set; limit = limit }

-- "bytes past are as lent"
abbrev pub over : List ℕ → List ℕ → List ℕ
over w l = w ++ drop (length w) l

-- the answer to an outcome: its numbers, and the lengths of what stands in the lent text, map, records and macro bytes
abbrev pub answer_of : Outcome → Flattened
answer_of o =
    record {
      number = o.number;
      file = o.file;
      line = o.line;
      byte = o.byte;
      written = length o.text;
      lines = length o.map;
      macros = length o.macros;
      stored = length (encode o.macros);
      count = o.count;
      deepest = o.depth;
      settings = o.settings;
    }

-- .. from where a run ended with the macros ms
abbrev pub answer_from : List ℕ → List (List ℕ) → List Macro → Last → Flattened
answer_from s t ms l =
    record {
      number = l.number;
      file = l.file;
      line = line_of s t l.number l.file l.byte;
      byte = l.byte;
      written = l.stage.spot.written;
      lines = l.stage.spot.lines;
      macros = l.stage.macros;
      stored = length (encode ms);
      count = l.stage.count;
      deepest = l.stage.deepest;
      settings = l.stage.settings;
    }

-- the first stage, with n macros
abbrev pub start_stage : ℕ → ℕ → ℕ → Stage
start_stage root set n =
    record {
      depth = 1;
      file = root;
      cursor = opening;
      blocks = record { «open» = 0; taken = true };
      macros = n;
      settings = reset_to set;
      spot = record { written = 0; lines = 0; fresh = true };
      count = 0;
      deepest = 0;
    }

-- a hand-over that a run can begin with, its start macros stored
pub record Startable (store : List ℕ) (table : List (List ℕ)) (root : ℕ) (bytes : List ℕ) (records : List (List ℕ)) (macros : ℕ) (name form : List ℕ) : Type 0 where
  pub entries : all_entries store table ≡ true
  pub few_entries : length table ≤ 64
  pub root_in : root < length table
  pub bytes_small : length bytes ≤ 65536
  pub few_macros : macros ≤ 256
  pub stored : Stored bytes records macros
  pub name_lent : 1025 ≤ length name
  pub form_lent : 65536 ≤ length form

-- an outcome answered, its text and map in the lent ones: they stand at the front, all behind as lent
pub record Leaves (o : Outcome) (t t' m m' : List ℕ) (a : Flattened) : Type 0 where
  pub answer : a ≡ answer_of o
  pub text_is : t' ≡ over o.text t
  pub map_is : m' ≡ over o.map m

-- its macros in the lent records and bytes: these hold them, zero behind the last
abbrev pub HoldsMacros : Outcome → Lent → Type 0
HoldsMacros o l' = Holds o.macros l'.bytes l'.records (length o.macros)

-- a run's outcome, whole
pub record RunLeaves (h : HandOver) (l l' : Lent) (a : Flattened) : Type 0 where
  pub leaves : Leaves (ran_over h (rooms_of l)) l.text l'.text l.map l'.map a
  pub macros_are : HoldsMacros (ran_over h (rooms_of l)) l'

-- flatten's contract: the outcome of the hand-over in these rooms, whole; "Refusal 1 touches nothing"
pub record Flattens (h : HandOver) (l l' : Lent) (a : Flattened) : Type 0 where
  pub leaves : Leaves (flattened h (rooms_of l)) l.text l'.text l.map l'.map a
  pub untouched : is_sound h (rooms_of l) ≡ false → (l'.records ≡ l.records) × (l'.bytes ≡ l.bytes)
  pub macros_are : is_sound h (rooms_of l) ≡ true → HoldsMacros (flattened h (rooms_of l)) l'
