-- The closing brackets due, in a lent buffer, four in a byte.
-- Assumes nothing.
use Rattle.std.specs.Prelude.{ℕ, zero, suc, ◌+◌, ◌*◌, ◌/◌, ◌%◌, ◌≤◌, cond, ◌⊎◌, ◌≡◌, List, [], ◌∷◌, eqb, length, get_or}
use Rattle.brackets.specs.Steps.{Step, on, done, torn}
use Rattle.brackets.specs.declared.Stepped.{Stepped}
use Rattle.brackets.specs.declared.Stepped.TheVariants as stepped

-- what digit j of a byte counts
abbrev pub weight : ℕ → ℕ
weight j = cond (eqb j 0) 1 (cond (eqb j 1) 4 (cond (eqb j 2) 16 64))

-- the digit of a closing bracket, and the bracket of a digit
abbrev pub digit_of : ℕ → ℕ
digit_of b = cond (eqb b 41) 0 (cond (eqb b 93) 1 2)

abbrev pub bracket_of : ℕ → ℕ
bracket_of k = cond (eqb k 0) 41 (cond (eqb k 1) 93 125)

-- the bracket at depth d
unfoldable pub level_of : List ℕ → ℕ → ℕ
level_of w d = bracket_of (get_or w (d / 4) 0 / weight (d % 4) % 4)

-- those due at depth n, innermost first
unfoldable pub stack_of : List ℕ → ℕ → List ℕ
stack_of w zero = []
stack_of w (suc n) = level_of w n ∷ stack_of w n

-- no room at depth n: in the buffer, or in a number
abbrev pub Full : List ℕ → ℕ → Type 0
Full w n = (4 * length w ≤ n) ⊎ (18446744073709551615 ≤ n)

-- an answer r is the right one; or `short`, and then the lent bytes have no room for n brackets
pub data Settled {A : Type 0} (w : List ℕ) (n : ℕ) (short right r : A) : Type 0 where
  full : r ≡ right → Settled w n short right r
  over : r ≡ short → Full w n → Settled w n short right r

-- the step that was taken from depth n, with the buffer then; or there is no room
abbrev pub SteppedBy : Stepped → Step → List ℕ → List ℕ → ℕ → Type 0
SteppedBy (stepped.On d) p w w' n = (p ≡ on (stack_of w' d)) × (d ≤ n + 1) × (d ≤ 4 * length w)
SteppedBy stepped.Done p w w' n = (p ≡ done) × (w' ≡ w)
SteppedBy stepped.Torn p w w' n = (p ≡ torn) × (w' ≡ w)
SteppedBy stepped.Short p w w' n = Full w n
