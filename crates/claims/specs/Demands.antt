-- Demand 3: pass is right, usages that it speaks of, and what flatten's answer says of them.
-- Assumes nothing.
use Rattle.std.specs.Prelude.{ℕ, ◌<◌, ◌≤◌, ◌≡◌, true, ◌↔◌, List, length}
use Rattle.text.specs.Bytes.{bytes}
use Rattle.definition.specs.Definitions.{Macro}
use Rattle.handover.specs.Sizes.{HandOver, Rooms, is_sound}
use Rattle.turns.specs.States.{State, Here}
use Rattle.turns.specs.Runs.{context_of, start_of, flattened}
use Rattle.turns.specs.Examples.{alone, printing}
use Rattle.turns.specs.Through.{Through}
use Rattle.passing.specs.Passing.{yes, fault, pass_of}
use Rattle.passing.specs.Chains.{chain}
use Rattle.passing.specs.Meaning.{Demanded, First, Longest}
use Rattle.passing.specs.Meeting.{Meets, expansion_at, Tame, Soft, AllTame, Demand3}
use Rattle.flatten.specs.Flattening.{Lent, rooms_of, Flattens}
use Rattle.flatten.specs.declared.Flattened.{Flattened}

-- "It passes exactly when each usage written in its texts names a macro of the set and gives a list which that macro accepts, and
-- no macro reaches itself"; else the first macro at fault. The chain of a set that passes is its longest
pub record PassRight (ms : List Macro) : Type 0 where
  pub exact : (pass_of ms ≡ yes) ↔ ((i : ℕ) → i < length ms → Demanded ms i)
  pub names_first : (i n : ℕ) → (pass_of ms ≡ fault i n) ↔ First ms i n
  pub longest : pass_of ms ≡ yes → (i : ℕ) → i < length ms → Longest ms i (chain ms i)

-- what flatten returns: the deepest nesting is bounded, and a usage that ends the run is refused only as demand 3 allows
pub record Returned (h : HandOver) (l : Lent) (a : Flattened) : Type 0 where
  pub deepest : (n : ℕ) → AllTame h (rooms_of l) n → a.deepest ≤ n
  pub refused : is_sound h (rooms_of l) ≡ true → (s : State) (b : Here) (w : List ℕ)
      → Through (context_of h (rooms_of l)) (start_of h (rooms_of l)) s → Meets (context_of h (rooms_of l)) s b w → Tame b w
      → ((expansion_at b w).stop ≡ 0 → ⊥) → (a.number ≡ (expansion_at b w).stop) × Soft a.number

pub record DemandThree : Type 0 where
  -- the starred bench example: A and B, which use each other
  pub bench : pass_of (flattened (alone (bytes "`define A `B\n`define B `A\n")) printing).macros ≡ fault 0 16
  pub pass_right : (ms : List Macro) → PassRight ms
  pub each_hand_over : (h : HandOver) (r : Rooms) → Demand3 h r
  pub returned : (h : HandOver) (l l' : Lent) (a : Flattened) → Flattens h l l' a → Returned h l a
