-- `lex::run` meets its contract. The invariant: the run from `i` ends where the run from `at` does.
-- Assumes nothing.
use mathlib.Core.Path.{◌≡◌}
use Prim.Native.Nat.{◌≤◌, max}
use lib.ListN.{length}
use Rattle.lex.specs.Scans.{run_end}
use Rattle.lex.proofs.run.Given as goal

abbrev pub invariant-loop-i : goal.invariant-loop-i
invariant-loop-i l = (l.i ≤ max l.at (length l.s)) × (run_end l.more l.s l.i ≡ run_end l.more l.s l.at)
