-- `pass::text_fault` meets its contract. The invariant: no token before `k` is at fault.
-- Assumes nothing.
use Prim.Native.Nat.{◌≤◌}
use mathlib.Core.List.{List}
use mathlib.Core.Path.{◌≡◌}
use lib.ListN.{length, drop}
use Rattle.definition.specs.Definitions.{Macro}
use Rattle.store.specs.Buffers.{Holds}
use Rattle.pending.specs.References.{stacked}
use Rattle.passing.specs.Passing.{text_fault}
use Rattle.pass.proofs.text_fault.Given as goal

abbrev pub invariant-loop-k : goal.invariant-loop-k
invariant-loop-k l =
    (l.k ≤ l.n)
    × (length l.ranges ≡ length l.initial.ranges)
    × (length l.stack ≡ length l.initial.stack)
    × ((ms : List Macro) → Holds ms l.b l.records l.macros → text_fault ms (stacked l.b l.b l.list l.n) ≡ text_fault ms (drop l.k (stacked l.b l.b l.list l.n)))
