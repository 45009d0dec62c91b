-- `copying::copy_tokens` meets its contract. The invariant: the tokens from the start to the cursor are copied.
-- Assumes nothing.
use Prim.Native.Nat.{◌-◌}
use lib.ListN.{length}
use Rattle.copying.specs.Copying.{CopiesTo}
use Rattle.copying.proofs.copy_tokens.Given as goal

abbrev pub invariant-loop-text : goal.invariant-loop-text
invariant-loop-text l = CopiesTo l.s l.base l.initial.text l.text l.initial.map l.map l.initial.c l.c l.initial.z l.z

abbrev pub decreases-loop-text : goal.decreases-loop-text
decreases-loop-text l = length l.s - l.c.at
