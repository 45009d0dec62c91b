-- `definition::formals_verdict` meets its contract. The invariant: whether a formal is bad is the same of the list from `at` on and of the formals from `i` on; where nothing bars the list, nothing bars it from `i` on; the buffers keep their lengths.
-- Assumes nothing.
use mathlib.Core.Path.{◌≡◌}
use Prim.Native.Nat.{◌-◌}
use lib.ListN.{length}
use Rattle.definition.specs.Extents.{Free}
use Rattle.definition.specs.Definitions.{bad_formals}
use Rattle.definition.proofs.Scanning.{Scanning}
use Rattle.definition.proofs.formals_verdict.Given as goal

abbrev pub invariant-loop-i : goal.invariant-loop-i
invariant-loop-i l = (length l.name ≡ length l.initial.name) × Scanning (Free l.s) l.s l.initial.stack l.stack (bad_formals l.s) l.at l.i

abbrev pub decreases-loop-i : goal.decreases-loop-i
decreases-loop-i l = length l.s - l.i
