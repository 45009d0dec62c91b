-- Several turns, one after the other.
-- Assumes nothing.
use Rattle.std.specs.Prelude.{ℕ, ◌≡◌, List, [], ◌∷◌, ◌++◌}
use Rattle.definition.specs.Definitions.{Macro}
use Rattle.settings.specs.declared.Settings.{Settings}
use Rattle.writing.specs.Written.{Written, Room}
use Rattle.blocks.specs.Blocks.{Conditional}
use Rattle.copying.specs.declared.Cursor.{Cursor}
use Rattle.turns.specs.States.{Context, Frame, State, writes, more}
use Rattle.turns.specs.Turns.{turn_at}

-- turns lead from one state to another; they write ws and replace nothing
pub data Leads (x : Context) : State → List Written → State → Type 0 where
  here : {s : State} → Leads x s [] s
  then : {s s₁ s' : State} {ws ws' : List Written} → turn_at x s ≡ more s₁ (writes ws) → Leads x s₁ ws' s'
      → Leads x s (ws ++ ws') s'

-- the state in a file at a cursor, with these conditionals open and this room, around it what such turns do not change
abbrev pub standing : List Frame → List Macro → Settings → ℕ → ℕ → Cursor → List Conditional → Room → State
standing fs ms st left file c cs r =
    record {
      frames = record { file = file; cursor = c } ∷ fs;
      conds = cs;
      macros = ms;
      settings = st;
      room = r;
      left = left;
    }
