-- The run to its end, and the outcome of a hand-over: document 01's flatten.
-- Assumes nothing.
use Rattle.std.specs.Prelude.{ℕ, zero, suc, ◌+◌, ◌-◌, ◌*◌, max, true, cond, List, [], ◌∷◌, ◌++◌, eqb, length}
use Rattle.definition.specs.Definitions.{Macro}
use Rattle.macros.specs.Starting.{started}
use Rattle.settings.specs.declared.Settings.{Settings}
use Rattle.settings.specs.Settings.{reset_to}
use Rattle.writing.specs.Written.{Written, text_of, map_of}
use Rattle.places.specs.Places.{line_at}
use Rattle.copying.specs.Cursors.{opening}
use Rattle.handover.specs.Entries.{body_of}
use Rattle.handover.specs.Sizes.{HandOver, Rooms, is_sound}
use Rattle.turns.specs.States.{Context, Frame, State, Made, Turn, more, stop, finished}
use Rattle.turns.specs.Turns.{turn_at}

-- from here on: what is written, the replacements, the deepest set; the refusal (0: none) with file and byte; the macros and
-- the directive state at the end
pub record Run : Type 0 where
  pub text : List Written
  pub count : ℕ
  pub depth : ℕ
  pub number : ℕ
  pub file : ℕ
  pub byte : ℕ
  pub macros : List Macro
  pub settings : Settings

-- "the refused token or directive changes nothing"
abbrev pub ends : State → ℕ → ℕ → ℕ → Run
ends s n f p =
    record { text = []; count = 0; depth = 0; number = n; file = f; byte = p; macros = s.macros; settings = s.settings }

abbrev pub onto : Made → Run → Run
onto m r =
    record {
      text = m.text ++ r.text;
      count = m.count + r.count;
      depth = max m.depth r.depth;
      number = r.number;
      file = r.file;
      byte = r.byte;
      macros = r.macros;
      settings = r.settings;
    }

abbrev pub follow : State → Turn → (State → Run) → Run
follow s (more s' m) go = onto m (go s')
follow s (stop n f p m) go = onto m (ends s n f p)
follow s finished go = ends s 0 0 0

-- n: fuel
unfoldable pub run_for : ℕ → Context → State → Run
run_for zero x s = ends s 0 0 0
run_for (suc n) x s = follow s (turn_at x s) (λ s'. run_for n x s')

-- 65,537 to the n
unfoldable pub power : ℕ → ℕ
power zero = 1
power (suc n) = 65537 * power n

-- each turn lowers this: of each file its bytes left, times what files included from it can take, and the file itself
unfoldable pub measure : Context → List Frame → ℕ
measure x [] = 1
measure x (f ∷ fs) =
    (length (body_of x.store x.table f.file) - f.cursor.at) * power (15 - length fs) + suc (measure x fs)

unfoldable pub run_from : Context → State → Run
run_from x s = run_for (measure x s.frames) x s

-- the outcome: the refusal (0: flat) with its place; text, map, macros, counts, directive state
pub record Outcome : Type 0 where
  pub number : ℕ
  pub file : ℕ
  pub line : ℕ
  pub byte : ℕ
  pub text : List ℕ
  pub map : List ℕ
  pub macros : List Macro
  pub count : ℕ
  pub depth : ℕ
  pub settings : Settings

abbrev pub context_of : HandOver → Rooms → Context
context_of h r = record { store = h.store; table = h.table; set = h.set; records = r.records; bytes = r.bytes }

abbrev pub start_of : HandOver → Rooms → State
start_of h r =
    record {
      frames = record { file = h.root; cursor = opening } ∷ [];
      conds = [];
      macros = started h.store h.starts;
      settings = reset_to h.set;
      room = record { bytes = r.text; lines = r.map; fresh = true };
      left = h.limit;
    }

-- the line of the refusal n at byte p of file f; 0 where there is none
abbrev pub line_of : List ℕ → List (List ℕ) → ℕ → ℕ → ℕ → ℕ
line_of s t n f p = cond (eqb n 0) 0 (line_at (body_of s t f) p)

abbrev pub outcome_of : Context → Run → Outcome
outcome_of x r =
    record {
      number = r.number;
      file = r.file;
      line = line_of x.store x.table r.number r.file r.byte;
      byte = r.byte;
      text = text_of r.text;
      map = map_of true r.text;
      macros = r.macros;
      count = r.count;
      depth = r.depth;
      settings = r.settings;
    }

-- "Refusal 1 touches nothing; the rest is 0"
abbrev pub not_taken : Outcome
not_taken =
    record {
      number = 1;
      file = 0;
      line = 0;
      byte = 0;
      text = [];
      map = [];
      macros = [];
      count = 0;
      depth = 0;
      settings = reset_to 0;
    }

-- the outcome of the run from the root's first byte on
abbrev pub ran_over : HandOver → Rooms → Outcome
ran_over h r = outcome_of (context_of h r) (run_from (context_of h r) (start_of h r))

unfoldable pub flattened : HandOver → Rooms → Outcome
flattened h r = cond (is_sound h r) (ran_over h r) not_taken
