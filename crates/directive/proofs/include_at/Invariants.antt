-- `directive::include_at` meets its contract. The invariant: the line from `i` on, with what bars it so far, is the include's line.
-- Assumes nothing.
use mathlib.Core.Path.{◌≡◌}
use Prim.Native.Nat.{◌-◌}
use lib.ListN.{length}
use Rattle.lex.specs.Tokens.{in_file, tokens}
use Rattle.directive.specs.Include.{include_in, include_at}
use Rattle.directive.proofs.include_at.Given as goal

abbrev pub invariant-loop-i : goal.invariant-loop-i
invariant-loop-i l = include_in l.s l.at l.bars (tokens in_file l.s l.i) ≡ include_at l.s l.at

abbrev pub decreases-loop-i : goal.decreases-loop-i
decreases-loop-i l = length l.s - l.i
