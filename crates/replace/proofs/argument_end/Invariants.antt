-- `replace::argument_end` meets its contract. The invariant: what stands before `e` is kept, and what follows it up to `i` is spacing.
-- Assumes nothing.
use Prim.Native.Nat.{◌-◌, ◌≤◌}
use mathlib.Core.List.{List}
use Rattle.pending.specs.Pending.{Pending}
use Rattle.pending.specs.Sources.{items_from, last_of, Spans}
use Rattle.replace.proofs.Trimming.{Trimming}
use Rattle.replace.proofs.argument_end.Given as goal

abbrev pub invariant-loop-i : goal.invariant-loop-i
invariant-loop-i l = (ps : List Pending) → Spans (items_from l.s l.b l.list l.n l.file) l.from l.to ps → l.to ≤ last_of l.s l.n l.file → Trimming (items_from l.s l.b l.list l.n l.file) l.from l.to l.i l.e ps

abbrev pub decreases-loop-i : goal.decreases-loop-i
decreases-loop-i l = last_of l.s l.n l.file - l.i
