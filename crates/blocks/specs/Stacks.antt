-- The open conditionals in a lent buffer, six numbers each, the innermost last.
-- Assumes nothing.
use Rattle.std.specs.Prelude.{ℕ, zero, suc, ◌≤◌, Bool, true, false, ◌≡◌, List, [], ◌∷◌, eqb, length, get_or, Option, Some, None}
use Rattle.std.proofs.Math.Option.{Option as Maybe, none, some}
use Rattle.blocks.specs.declared.Blocks.{Blocks}
use Rattle.blocks.specs.Blocks.{Conditional, taken_by}

abbrev pub blank_block : List ℕ
blank_block = 0 ∷ 0 ∷ 0 ∷ 0 ∷ 0 ∷ 0 ∷ []

abbrev pub flag : ℕ → Bool
flag n = eqb n 1

-- the conditional of six numbers
abbrev pub conditional_of : List ℕ → Conditional
conditional_of v =
    record {
      file = get_or v 0 0;
      byte = get_or v 1 0;
      outer = flag (get_or v 2 0);
      active = flag (get_or v 3 0);
      done = flag (get_or v 4 0);
      last = flag (get_or v 5 0);
    }

-- the first n of w, innermost first
unfoldable pub open_in : List (List ℕ) → ℕ → List Conditional
open_in w zero = []
open_in w (suc n) = conditional_of (get_or w n blank_block) ∷ open_in w n

-- z says how many are open in w, at most 32, and whether text is taken
pub record BlocksIn (w : List (List ℕ)) (z : Blocks) : Type 0 where
  pub few : z.open ≤ 32
  pub lent : 32 ≤ length w
  pub taken_is : z.taken ≡ taken_by (open_in w z.open)

-- the open conditionals became what `next` says, or 8 refuses it
abbrev pub ChangedBy : Option Blocks → Maybe (List Conditional) → List (List ℕ) → List (List ℕ) → Type 0
ChangedBy (Some z') next w w' = (next ≡ some (open_in w' z'.open)) × BlocksIn w' z'
ChangedBy None next w w' = (next ≡ none) × (w' ≡ w)
