-- A reading as a number for its state, with the name and the closing brackets due in lent buffers.
-- Assumes nothing.
use Rattle.std.specs.Prelude.{ℕ, ◌+◌, ◌*◌, ◌≤◌, Bool, Option, Some, None, ◌≡◌, List, length, take}
use Rattle.brackets.specs.Stacks.{stack_of, Full}
use Rattle.afresh.specs.States.{State, state}
use Rattle.afresh.specs.declared.Reading.{Reading}

abbrev pub state_of : Reading → List ℕ → List ℕ → State
state_of r name stack =
    state r.state r.text r.marks r.grave (take r.count name) (stack_of stack r.depth)

-- the buffers hold a reading's name, of at most 1,025 bytes, and its brackets
pub record Sound (r : Reading) (name stack : List ℕ) : Type 0 where
  pub long : 1025 ≤ length name
  pub count : r.count ≤ 1025
  pub depth : r.depth ≤ 4 * length stack

-- n more bytes were read, and the reading is in the state q then; or the brackets have no room
abbrev pub FedBy : Option Reading → Reading → ℕ → State → List ℕ → List ℕ → List ℕ → Type 0
FedBy (Some r') r n q stack name' stack' =
    (state_of r' name' stack' ≡ q) × Sound r' name' stack' × (r'.depth ≤ r.depth + n)
FedBy None r n q stack name' stack' = Full stack (r.depth + n)

-- the answer on whether a text is bad, where the brackets have room
abbrev pub verdict_of : Bool → Option Bool
verdict_of bad = Some bad
