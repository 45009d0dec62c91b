-- What the code answers of a token in a list, with the closing brackets due in a lent buffer.
-- Assumes nothing.
use Rattle.std.specs.Prelude.{ℕ, ◌+◌, ◌≤◌, ◌≡◌, List}
use Rattle.brackets.specs.Stacks.{stack_of}
use Rattle.arguments.specs.declared.Move as moved
use Rattle.arguments.specs.declared.Move.TheVariants as move
use Rattle.arguments.specs.Arguments.{Move, keep, part, close, fail}

-- the move m was made with n brackets due in w, which is w' then
abbrev pub MovedBy : moved.Move → Move → List ℕ → List ℕ → ℕ → Type 0
MovedBy (move.Keep d) m w w' n = (m ≡ keep (stack_of w' d)) × (d ≤ n + 1)
MovedBy move.Part m w w' n = (m ≡ part) × (w' ≡ w)
MovedBy move.Close m w w' n = m ≡ close
MovedBy (move.Fail k p) m w w' n = m ≡ fail k p
