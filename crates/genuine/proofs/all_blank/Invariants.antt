-- `genuine::all_blank` meets its contract. The invariant: the test of all from the start is that of all from `i` on.
-- Assumes nothing.
use mathlib.Core.Path.{◌≡◌}
use lib.ListN.{drop}
use Rattle.genuine.specs.Layout.{all_blank}
use Rattle.genuine.proofs.all_blank.Given as goal

abbrev pub invariant-loop-i : goal.invariant-loop-i
invariant-loop-i l = all_blank (drop l.i l.records) ≡ all_blank (drop l.at l.records)
