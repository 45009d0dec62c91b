-- `directive::line_behind` meets its contract. The invariant: the line from `i` on, with what was found so far, is the line behind the name.
-- Assumes nothing.
use mathlib.Core.Path.{◌≡◌}
use Prim.Native.Nat.{◌-◌}
use lib.ListN.{length}
use Rattle.lex.specs.Tokens.{in_file, tokens}
use Rattle.directive.specs.Include.{behind, behind_at}
use Rattle.directive.proofs.line_behind.Given as goal

abbrev pub invariant-loop-i : goal.invariant-loop-i
invariant-loop-i l = behind l.s l.file l.end l.bars l.other (tokens in_file l.s l.i) ≡ behind_at l.s l.file l.end l.initial.bars

abbrev pub decreases-loop-i : goal.decreases-loop-i
decreases-loop-i l = length l.s - l.i
