-- `replace::push_text` meets its contract. The invariant: what takes the place of the tokens before `i` is added, and the
-- arguments can be read where they stand.
-- Assumes nothing.
use Prim.Native.Nat.{ℕ, ◌-◌, ◌≤◌}
use mathlib.Core.List.{List}
use mathlib.Core.Path.{◌≡◌}
use lib.ListN.{length, take}
use Rattle.definition.specs.Definitions.{Parameter}
use Rattle.sets.specs.Sets.{members}
use Rattle.pending.specs.Pending.{Pending}
use Rattle.pending.specs.References.{pendings}
use Rattle.pending.specs.Sources.{items_from, last_of}
use Rattle.arguments.specs.Ranges.{Ranged}
use Rattle.replace.specs.Tidying.{tidy_all}
use Rattle.replace.specs.Placing.{MacroIn, Ready}
use Rattle.replace.proofs.Texts.{Placed}
use Rattle.replace.proofs.push_text.Given as goal

abbrev pub invariant-loop-i : goal.invariant-loop-i
invariant-loop-i l =
    (length l.out ≡ length l.initial.out)
    × (l.k ≤ l.most)
    × (length l.ranges ≡ length l.initial.ranges)
    × ((fs : List Parameter) (t : List ℕ) (xs : List (List Pending)) → MacroIn l.b l.q fs t → l.given ≡ length xs
    → Ranged (items_from l.s l.b l.list l.n l.file) (last_of l.s l.n l.file) l.initial.ranges xs
    → Placed l.s l.b l.w (members l.set) fs (tidy_all xs) l.initial.out l.out l.most l.k l.i l.marks × Ready (items_from l.s l.b l.list l.n l.file) (last_of l.s l.n l.file) l.ranges xs (pendings l.s l.b (take l.k l.out)))

abbrev pub decreases-loop-i : goal.decreases-loop-i
decreases-loop-i l = length l.w - l.i
