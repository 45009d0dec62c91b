-- As many entries and start macros as the parser says have room.
-- Assumes nothing.
use mathlib.Core.Path.{◌≡◌, subst}
use mathlib.Core.List.{List}
use Prim.Native.Nat.{ℕ, ◌≤◌}
use lib.ListN.{length}
use Rattle.std.proofs.Common.{Option, Some}
use Rattle.input.specs.Sections.{Input}
use Rattle.input.specs.Filling.{ParsedBy}

pub fits : {r : Option (ℕ × ℕ)} {n m : ℕ} (i : Input) (t u : List (List ℕ)) → r ≡ Some (n, m) → ParsedBy r i t u → (n ≤ length t) × (m ≤ length u)
fits {r} {n} {m} i t u e h = let f : ParsedBy (Some (n, m)) i t u = subst (λ (q : Option (ℕ × ℕ)). ParsedBy q i t u) e h in (f.table_is.within, f.starts_are.within)
