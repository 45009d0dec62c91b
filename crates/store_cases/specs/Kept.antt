-- What every step of a script keeps, and the number of macros by an answer to a definition.
-- Assumes nothing.
use Rattle.std.specs.Prelude.{ℕ, ◌≤◌, List}
use Rattle.store.specs.Buffers.{Stored}
use Rattle.macros.specs.declared.ReadIn.{ReadIn}
use Rattle.macros.specs.declared.ReadIn.TheVariants as read

-- bytes and records hold n macros, at most 256
pub record Kept (b : List ℕ) (r : List (List ℕ)) (n : ℕ) : Type 0 where
  pub stored : Stored b r n
  pub few : n ≤ 256

-- where there were n: a refusal changes nothing
abbrev pub counted : ReadIn → ℕ → ℕ
counted (read.Done k e) n = k
counted (read.Barred k p) n = n
counted read.Bad n = n
counted read.NoRoom n = n
