-- `macros::all_starts` meets its contract. The loop's invariant: the ranges from `i` on decide.
-- Assumes nothing.
use mathlib.Core.Path.{◌≡◌}
use lib.ListN.{drop}
use Rattle.macros.specs.Starting.{all_starts}
use Rattle.macros.proofs.all_starts.Given as goal

abbrev pub invariant-loop-i : goal.invariant-loop-i
invariant-loop-i l = all_starts l.s (drop l.i l.ranges) ≡ all_starts l.s l.ranges
