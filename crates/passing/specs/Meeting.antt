-- Demand 3 over whole flattenings: the usages that a run meets in files.
-- Assumes nothing.
use Rattle.std.specs.Prelude.{ℕ, ◌≤◌, ◌≡◌, Bool, true, ◌&&◌, List, ◌∷◌, eqb}
use Rattle.lex.specs.Tokens.{Grave, is, name_of}
use Rattle.names.specs.Names.{directive_of}
use Rattle.pending.specs.Pending.{file_from}
use Rattle.blocks.specs.Blocks.{taken_by}
use Rattle.expand.specs.Expanding.{Expansion, first, goes_on, expand}
use Rattle.handover.specs.Sizes.{HandOver, Rooms, is_sound}
use Rattle.turns.specs.States.{Context, Frame, State, Made, Here}
use Rattle.turns.specs.Usages.{outer_of, after_usage}
use Rattle.turns.specs.Turns.{here_at, turn_at}
use Rattle.turns.specs.Through.{Through}
use Rattle.turns.specs.Runs.{onto, run_from, context_of, start_of, flattened}
use Rattle.passing.specs.Passing.{yes, pass_of}
use Rattle.passing.specs.Chains.{tame, chain_from}

-- "flattening meets those in taken text outside directives and lists": at a token that nothing bars
abbrev pub is_met : Here → Bool
is_met h =
    eqb h.token.bar 0 &&
    (is Grave h.token && (eqb (directive_of (name_of h.body h.token)) 0 && taken_by h.state.conds))

-- the state s of a run is about to take the usage of w there
pub record Meets (x : Context) (s : State) (h : Here) (w : List ℕ) : Type 0 where
  pub frame : Frame
  pub others : List Frame
  pub frames_are : s.frames ≡ frame ∷ others
  pub here_is : h ≡ here_at x s frame others
  pub met : is_met h ≡ true
  pub name_is : w ≡ name_of h.body h.token

-- its expansion
abbrev pub expansion_at : Here → List ℕ → Expansion
expansion_at h w = expand h.state.left (outer_of h) h.state.macros h.state.room w h.body h.token.end

-- "the macros then stored would pass", and the usage is as demand 3 has it
pub record Tame (h : Here) (w : List ℕ) : Type 0 where
  pub pass : pass_of h.state.macros ≡ yes
  pub accepted : tame h.state.macros w (file_from h.body h.token.end) ≡ true

-- "refused, and only for room, the pending list or the replacement limit"; 0: not refused
pub data Soft : ℕ → Type 0 where
  whole : Soft 0
  pending_list : Soft 17
  limit : Soft 18
  text_room : Soft 19
  map_room : Soft 20

-- a state's part in a run: what was made before it, and the run from there
pub record Part (x : Context) (s₀ s : State) : Type 0 where
  pub made : Made
  pub whole : run_from x s₀ ≡ onto made (run_from x s)

-- "every usage met in a file is such a one", and none of their chains has more than n macros
abbrev pub AllTame : HandOver → Rooms → ℕ → Type 0
AllTame h r n =
    (s : State) (a : Here) (w : List ℕ) → Through (context_of h r) (start_of h r) s → Meets (context_of h r) s a w
    → Tame a w × (chain_from s.macros w ≤ n)

-- Demand 3, of the flattening of a hand-over in these rooms
pub record Demand3 (h : HandOver) (r : Rooms) : Type 0 where
  -- what is said of a state is said of the flattening: its run is the rest of the whole
  pub part : is_sound h r ≡ true → (s : State) → Through (context_of h r) (start_of h r) s → Part (context_of h r) (start_of h r) s
  -- the turn at a usage is its expansion
  pub turn_is : (s : State) (a : Here) (w : List ℕ) → Through (context_of h r) (start_of h r) s → Meets (context_of h r) s a w
      → turn_at (context_of h r) s ≡ after_usage a (goes_on a.body (first a.state.macros w a.body a.token.end)) (expansion_at a w)
  -- .. which is whole, or stopped for want of room, by the pending list or by the limit alone
  pub each_soft : (s : State) (a : Here) (w : List ℕ) → Through (context_of h r) (start_of h r) s → Meets (context_of h r) s a w → Tame a w
      → Soft (expansion_at a w).stop
  -- "no token of its expansion comes out of more nested macro texts than there are macros in the longest chain"
  pub each_deep : (s : State) (a : Here) (w : List ℕ) → Through (context_of h r) (start_of h r) s → Meets (context_of h r) s a w → Tame a w
      → (expansion_at a w).depth ≤ chain_from s.macros w
  -- "the deepest nesting reported is at most the number of macros in the longest of these chains, and 0 if none is met": at most
  -- every number that none of them exceeds
  pub deepest : (n : ℕ) → AllTame h r n → (flattened h r).depth ≤ n
