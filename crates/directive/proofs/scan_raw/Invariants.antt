-- `directive::scan_raw` meets its contract. The invariant: the raw name from `i` on, with the legality so far, is the one from `at` on.
-- Assumes nothing.
use mathlib.Core.Path.{◌≡◌}
use lib.ListN.{drop}
use Rattle.directive.specs.Include.{raw_from, raw_end}
use Rattle.directive.proofs.scan_raw.Given as goal

abbrev pub invariant-loop-i : goal.invariant-loop-i
invariant-loop-i l = raw_from l.ok l.i (drop l.i l.s) ≡ raw_end l.s l.at
