-- What pass and chains mean, in demand 3's words.
-- Assumes nothing.
use Rattle.std.specs.Prelude.{ℕ, ◌<◌, ◌≤◌, ◌≡◌, length, Ok}
use Rattle.std.proofs.Math.Option.{none, some}
use mathlib.Core.List.{List, [], ◌∷◌, ◌++◌, Memᴰ as In}
use Rattle.definition.specs.Definitions.{Macro}
use Rattle.store.specs.Stores.{macro_at, find}
use Rattle.pending.specs.Pending.{Pending, calls, view}
use Rattle.replace.specs.Replacing.{listed, list_for}
use Rattle.passing.specs.Passing.{formals_of, text_at, uses, macro_fault}

-- a usage of w, followed by ps, "names a macro of the set and gives a list which that macro accepts"
pub record Accepted (ms : List Macro) (w : List ℕ) (ps : List Pending) : Type 0 where
  pub number : ℕ
  pub stored : find w ms ≡ Ok number
  pub arguments : List (List Pending)
  pub rest : List Pending
  pub taken : list_for (formals_of (macro_at ms number)) ps ≡ listed arguments rest

-- "each usage written in its texts"
pub record AllAccepted (ms : List Macro) (ps : List Pending) : Type 0 where
  pub each : (before after : List Pending) (p : Pending) (w : List ℕ) → ps ≡ before ++ (p ∷ after) → view p ≡ calls w → Accepted ms w after

-- a chain from macro i: the macros behind it, "each written in the text of the one before"
pub data Walk (ms : List Macro) : ℕ → List ℕ → Type 0 where
  stay : {i : ℕ} → Walk ms i []
  step : {i j : ℕ} {l : List ℕ} → In j (uses ms i) → Walk ms j l → Walk ms i (j ∷ l)

-- macro i as a set that passes has it; "no macro reaches itself"
pub record Demanded (ms : List Macro) (i : ℕ) : Type 0 where
  pub usages : AllAccepted ms (text_at ms i)
  pub apart : (l : List ℕ) → Walk ms i l → In i l → ⊥

-- "the first macro in byte order at fault"
pub record First (ms : List Macro) (i n : ℕ) : Type 0 where
  pub below : i < length ms
  pub at_fault : macro_fault ms i ≡ some n
  pub none_before : (j : ℕ) → j < i → macro_fault ms j ≡ none

-- some chain from i has c macros, and none has more
pub record Longest (ms : List Macro) (i c : ℕ) : Type 0 where
  pub nodes : List ℕ
  pub walk : Walk ms i nodes
  pub size : length (i ∷ nodes) ≡ c
  pub none_longer : (l : List ℕ) → Walk ms i l → length (i ∷ l) ≤ c
