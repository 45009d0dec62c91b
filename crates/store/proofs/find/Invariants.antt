-- `store::find` meets its contract. The loop's invariant: the search from macro `i` on finds what the whole search finds.
-- Assumes nothing.
use mathlib.Core.Path.{◌≡◌}
use mathlib.Core.List.{List}
use lib.ListN.{drop}
use Rattle.definition.specs.Definitions.{Macro}
use Rattle.store.specs.Stores.{find_from}
use Rattle.store.specs.Stores.{find as findName}
use Rattle.store.specs.Buffers.{Holds}
use Rattle.store.proofs.find.Given as goal

abbrev pub invariant-loop-i : goal.invariant-loop-i
invariant-loop-i l = (ms : List Macro) → Holds ms l.bytes l.records l.count → find_from l.i l.w (drop l.i ms) ≡ findName l.w ms
