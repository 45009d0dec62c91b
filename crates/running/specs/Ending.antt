-- How a run goes on and ends from a stage on.
-- Assumes nothing.
use Rattle.std.specs.Prelude.{ℕ, max, ◌+◌, ◌<◌, ◌≡◌, List, [], ◌∷◌}
use Rattle.std.proofs.lemmas.List.Edits.{sets}
use Rattle.definition.specs.Definitions.{Macro}
use Rattle.store.specs.Buffers.{Holds}
use Rattle.settings.specs.declared.Settings.{Settings}
use Rattle.writing.specs.Written.{text_of, map_of}
use Rattle.writing.specs.Buffers.{spot_after}
use Rattle.writing.specs.declared.Spot.{Spot}
use Rattle.blocks.specs.Blocks.{Conditional}
use Rattle.handover.specs.Entries.{body_of}
use Rattle.turns.specs.States.{Context, Frame}
use Rattle.turns.specs.Runs.{Run, measure, run_from}
use Rattle.reading.specs.Reading.{ReachedBy, StaysBy}
use Rattle.reading.specs.declared.Reached.{Reached}
use Rattle.steps.specs.declared.stage.Stage.{Stage}
use Rattle.steps.specs.declared.stage.Step.{Step}
use Rattle.steps.specs.declared.stage.Step.TheVariants as step
use Rattle.steps.specs.Standing.{Bufs, ended_at, state_of, Fixed}
use Rattle.running.specs.declared.Last.{Last}
use Rattle.dispatch.specs.Going.{Going}

-- the last step of a run: 8 where a conditional is open
abbrev pub last_step : Stage → List Conditional → Step
last_step z [] = ended_at z 0 0 0
last_step z (c ∷ cs) = ended_at z 8 c.file c.byte

-- reading from a stage, in the file s, came to r, in every context and with the macros that the buffers hold
abbrev pub ReadFrom : Reached → List ℕ → Stage → List ℕ → List (List ℕ) → List (List ℕ) → List (List ℕ) → List ℕ → List ℕ → List ℕ → List ℕ → Type 0
ReadFrom r s z bs rs cd cd' tx tx' mp mp' =
    StaysBy r s z.file cd' tx' mp'
    × ((x : Context) (fs : List Frame) (ms : List Macro) (st : Settings) (left : ℕ) → body_of x.store x.table z.file ≡ s → Holds ms bs rs z.macros
    → ReachedBy r s z.file x fs ms st left cd cd' tx tx' mp mp' z.cursor z.spot z.blocks)

-- all that a run leaves, but for the macros' bytes and records
pub record Final : Type 0 where
  pub text : List ℕ
  pub map : List ℕ
  pub number : ℕ
  pub file : ℕ
  pub byte : ℕ
  pub count : ℕ
  pub deepest : ℕ
  pub spot : Spot
  pub macros : List Macro
  pub settings : Settings

-- .. from a stage on, if the run goes on as r says
abbrev pub finish : Bufs → Stage → Run → Final
finish B z r =
    record {
      text = sets B.text z.spot.written (text_of r.text);
      map = sets B.map z.spot.lines (map_of z.spot.fresh r.text);
      number = r.number;
      file = r.file;
      byte = r.byte;
      count = z.count + r.count;
      deepest = max z.deepest r.depth;
      spot = spot_after z.spot r.text;
      macros = r.macros;
      settings = r.settings;
    }

-- .. where nothing goes on
abbrev pub ended : Bufs → Stage → ℕ → ℕ → ℕ → List Macro → Final
ended B z n f p ms =
    record {
      text = B.text;
      map = B.map;
      number = n;
      file = f;
      byte = p;
      count = z.count;
      deepest = z.deepest;
      spot = z.spot;
      macros = ms;
      settings = z.settings;
    }

-- turns led to another stage: the rest ends as all did, and it is less
pub record Advances (x : Context) (limit : ℕ) (store : List ℕ) (table : List (List ℕ)) (B B' : Bufs) (ms : List Macro) (z z' : Stage) : Type 0 where
  pub macros : List Macro
  pub holds : Holds macros B'.bytes B'.records z'.macros
  pub same_end :
      finish B z (run_from x (state_of limit B ms z)) ≡ finish B' z' (run_from x (state_of limit B' macros z'))
  pub less : measure x (state_of limit B' macros z').frames < measure x (state_of limit B ms z).frames
  pub going : Going store table B' z'

-- or to the end
pub record Finishes (x : Context) (limit : ℕ) (B B' : Bufs) (ms : List Macro) (z z' : Stage) (n f p : ℕ) : Type 0 where
  pub macros : List Macro
  pub holds : Holds macros B'.bytes B'.records z'.macros
  pub the_end : finish B z (run_from x (state_of limit B ms z)) ≡ ended B' z' n f p macros

abbrev pub AdvancedBy : Step → Context → ℕ → List ℕ → List (List ℕ) → Bufs → Bufs → List Macro → Stage → Type 0
AdvancedBy (step.On z') x limit store table B B' ms z = Advances x limit store table B B' ms z z'
AdvancedBy (step.Ended z' n f p) x limit store table B B' ms z = Finishes x limit B B' ms z z' n f p

-- .. in every context, with the macros that the buffers hold
abbrev pub AdvancesBy : Step → ℕ → ℕ → List ℕ → List (List ℕ) → Bufs → Bufs → Stage → Type 0
AdvancesBy r set limit store table B B' z =
    (x : Context) (ms : List Macro) → Fixed x store table set B → Holds ms B.bytes B.records z.macros
    → AdvancedBy r x limit store table B B' ms z

abbrev pub FinishesBy : Last → ℕ → ℕ → List ℕ → List (List ℕ) → Bufs → Bufs → Stage → Type 0
FinishesBy r set limit store table B B' z =
    (x : Context) (ms : List Macro) → Fixed x store table set B → Holds ms B.bytes B.records z.macros
    → Finishes x limit B B' ms z r.stage r.number r.file r.byte
