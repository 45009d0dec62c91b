-- `definition::named_later` meets its contract. The invariant: whether a formal has the name is the same of the list from `at` on and of the formals from `i` on.
-- Assumes nothing.
use Prim.Native.Nat.{ℕ, ◌-◌}
use lib.ListN.{length}
use Rattle.text.specs.Bytes.{part}
use Rattle.definition.specs.Definitions.{named}
use Rattle.definition.proofs.Scanning.{Scanning}
use Rattle.definition.proofs.named_later.Given as goal

abbrev pub invariant-loop-i : goal.invariant-loop-i
invariant-loop-i l = Scanning (λ (j : ℕ). Unit {0}) l.s l.initial.stack l.stack (named l.s (part l.s l.from l.end)) l.at l.i

abbrev pub decreases-loop-i : goal.decreases-loop-i
decreases-loop-i l = length l.s - l.i
