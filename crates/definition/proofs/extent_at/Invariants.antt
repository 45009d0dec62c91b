-- `definition::extent_at` meets its contract. The invariant: the extent from `i` on, with what was found so far, is the definition's.
-- Assumes nothing.
use Prim.Native.Nat.{◌-◌}
use mathlib.Core.Path.{◌≡◌}
use lib.ListN.{length}
use Rattle.lex.specs.Tokens.{in_definition, between, tokens}
use Rattle.definition.specs.Extents.{extent_in, extent_at}
use Rattle.definition.proofs.extent_at.Given as goal

abbrev pub invariant-loop-i : goal.invariant-loop-i
invariant-loop-i l = extent_in l.i l.bars l.mark (tokens (between in_definition l.marks) l.s l.i) ≡ extent_at l.s l.at

abbrev pub decreases-loop-i : goal.decreases-loop-i
decreases-loop-i l = length l.s - l.i
