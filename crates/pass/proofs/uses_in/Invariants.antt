-- `pass::uses_in` meets its contract. The invariant: the set has what the references so far use.
-- Assumes nothing.
use Prim.Native.Nat.{ℕ}
use mathlib.Core.List.{List}
use mathlib.Core.Path.{◌≡◌}
use Rattle.definition.specs.Definitions.{Macro}
use Rattle.store.specs.Buffers.{Holds}
use Rattle.sets.specs.Sets.{elem, members}
use Rattle.pending.specs.References.{stacked}
use Rattle.passing.specs.Passing.{uses_in}
use Rattle.pass.proofs.uses_in.Given as goal

abbrev pub invariant-loop-v : goal.invariant-loop-v
invariant-loop-v l = (ms : List Macro) (j : ℕ) → Holds ms l.b l.records l.macros → elem j (members l.uses) ≡ elem j (uses_in ms (stacked l.b l.b l.list l.v-index))
