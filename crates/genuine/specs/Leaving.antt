-- A store that definitions leave: some macros, each one that a definition stores, in byte order, in buffers of 01's size.
-- Assumes nothing.
use Rattle.std.specs.Prelude.{ℕ, ◌≤◌, true, ◌≡◌, List, length}
use Rattle.definition.specs.Definitions.{Macro}
use Rattle.store.specs.Stores.{Ascending}
use Rattle.store.specs.Buffers.{Holds}
use Rattle.genuine.specs.Fitness.{all_fit}

pub record LeftBy (ms : List Macro) (b : List ℕ) (r : List (List ℕ)) : Type 0 where
  pub small : length b ≤ 65536
  pub few : length ms ≤ 256
  pub holds : Holds ms b r (length ms)
  pub order : Ascending ms
  pub fit : all_fit ms ≡ true
