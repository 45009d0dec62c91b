-- `pass::first_fault` meets its contract. The invariant: no macro before `i` is at fault.
-- Assumes nothing.
use Prim.Native.Nat.{ℕ, ◌-◌, ◌<◌}
use mathlib.Core.List.{List}
use mathlib.Core.Path.{◌≡◌}
use lib.ListN.{length}
use Rattle.definition.specs.Definitions.{Macro}
use Rattle.store.specs.Buffers.{Holds}
use Rattle.reach.specs.Reaching.{has_bit}
use Rattle.passing.specs.Passing.{reaches, pass_from, pass_of}
use Rattle.pass.proofs.first_fault.Given as goal

abbrev pub invariant-loop-i : goal.invariant-loop-i
invariant-loop-i l =
    (length l.list ≡ length l.initial.list)
    × (length l.ranges ≡ length l.initial.ranges)
    × (length l.stack ≡ length l.initial.stack)
    × ((ms : List Macro) → Holds ms l.b l.records l.macros → ((a : ℕ) → a < l.macros → has_bit l.rows a a ≡ reaches ms (length ms) a a) → pass_of ms ≡ pass_from ms l.i (l.macros - l.i))
