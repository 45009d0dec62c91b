-- `storing::store_text` meets its contract. The invariant: what is added so far and the pieces from `i` on are the pieces from `at` on.
-- Assumes nothing.
use mathlib.Core.Bool.{false}
use Prim.Native.Nat.{◌-◌}
use Rattle.lex.specs.Tokens.{in_definition, between, tokens}
use Rattle.storing.specs.Stored.{pieces}
use Rattle.storing.proofs.Adding.{Adding}
use Rattle.storing.proofs.store_text.Given as goal

abbrev pub invariant-loop-i : goal.invariant-loop-i
invariant-loop-i l = Adding l.initial.out l.out l.from l.from l.k (pieces l.s l.end l.marks (tokens (between in_definition l.marks) l.s l.i)) (pieces l.s l.end false (tokens in_definition l.s l.at))

abbrev pub decreases-loop-i : goal.decreases-loop-i
decreases-loop-i l = l.end - l.i
