-- `replace::push_kept` meets its contract. The invariant: the tokens added so far, then those from `i` on, are those to add.
-- Assumes nothing.
use Prim.Native.Nat.{◌-◌, ◌≤◌}
use mathlib.Core.List.{List}
use Rattle.pending.specs.Pending.{Pending}
use Rattle.pending.specs.Sources.{items_from, last_of, Spans}
use Rattle.replace.proofs.Keeping.{Keeping, Room}
use Rattle.replace.proofs.push_kept.Given as goal

abbrev pub invariant-loop-i : goal.invariant-loop-i
invariant-loop-i l = Room l.initial.out l.out l.most l.k × ((ps : List Pending) → Spans (items_from l.s l.b l.list l.n l.file) l.from l.to ps → l.to ≤ last_of l.s l.n l.file → Keeping l.s l.b (items_from l.s l.b l.list l.n l.file) l.initial.out l.out l.most l.at l.to l.i l.k ps)

abbrev pub decreases-loop-i : goal.decreases-loop-i
decreases-loop-i l = last_of l.s l.n l.file - l.i
