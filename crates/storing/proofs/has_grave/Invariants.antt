-- `storing::has_grave` meets its contract. The invariant: a grave accent stands from `i` on just where one stands from `at` on.
-- Assumes nothing.
use mathlib.Core.Path.{◌≡◌}
use Prim.Native.Nat.{◌-◌}
use Rattle.lex.specs.Tokens.{in_definition, between, tokens}
use Rattle.storing.specs.Graves.{grave_in, has_grave}
use Rattle.storing.proofs.has_grave.Given as goal

abbrev pub invariant-loop-i : goal.invariant-loop-i
invariant-loop-i l = grave_in l.s l.end (tokens (between in_definition l.marks) l.s l.i) ≡ has_grave l.s l.at l.end

abbrev pub decreases-loop-i : goal.decreases-loop-i
decreases-loop-i l = l.end - l.i
