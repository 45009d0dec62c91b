-- `judging::judge_stored` meets its contract. The invariant: the pieces from `i` on, read from here, give what the pieces from `at` on give.
-- Assumes nothing.
use Prim.Native.Nat.{◌-◌}
use mathlib.Core.Bool.{false}
use Rattle.lex.specs.Tokens.{in_definition, between, tokens}
use Rattle.storing.specs.Stored.{pieces}
use Rattle.judging.proofs.Feeding.{Feeding}
use Rattle.judging.proofs.Verdicts.{starting}
use Rattle.judging.proofs.judge_stored.Given as goal

abbrev pub invariant-loop-i : goal.invariant-loop-i
invariant-loop-i l = Feeding (starting l.text) l.initial.name l.initial.stack l.q l.name l.stack (pieces l.s l.end l.marks (tokens (between in_definition l.marks) l.s l.i)) (pieces l.s l.end false (tokens in_definition l.s l.at))

abbrev pub decreases-loop-i : goal.decreases-loop-i
decreases-loop-i l = l.end - l.i
