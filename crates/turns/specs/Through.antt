-- The states that a run goes through.
-- Assumes nothing.
use Rattle.std.specs.Prelude.{◌≡◌}
use Rattle.turns.specs.States.{Context, State, Made, more}
use Rattle.turns.specs.Turns.{turn_at}

pub data Through (x : Context) (s : State) : State → Type 0 where
  start : Through x s s
  next : {s₁ s₂ : State} {m : Made} → Through x s s₁ → turn_at x s₁ ≡ more s₂ m → Through x s s₂
