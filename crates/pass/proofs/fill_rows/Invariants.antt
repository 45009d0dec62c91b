-- `pass::fill_rows` meets its contract. The invariant: the rows before `i` have what these macros use.
-- Assumes nothing.
use Prim.Native.Nat.{ℕ, ◌<◌}
use mathlib.Core.List.{List}
use mathlib.Core.Path.{◌≡◌}
use lib.ListN.{length}
use Rattle.definition.specs.Definitions.{Macro}
use Rattle.store.specs.Buffers.{Holds}
use Rattle.sets.specs.Sets.{elem}
use Rattle.reach.specs.Reaching.{has_bit}
use Rattle.passing.specs.Passing.{uses}
use Rattle.pass.proofs.fill_rows.Given as goal

abbrev pub invariant-loop-i : goal.invariant-loop-i
invariant-loop-i l =
    (length l.list ≡ length l.initial.list)
    × (length l.rows ≡ length l.initial.rows)
    × ((ms : List Macro) (a j : ℕ) → Holds ms l.b l.records l.macros → a < l.i → has_bit l.rows a j ≡ elem j (uses ms a))
