-- `lex::scan_span` meets its contract. The invariant: the scan from `i` with the legality so far is the scan from `at`.
-- Assumes nothing.
use mathlib.Core.Path.{◌≡◌}
use Prim.Native.Nat.{◌≤◌, max}
use lib.ListN.{length, drop}
use Rattle.lex.specs.Scans.{span_from, span_end}
use Rattle.lex.proofs.scan_span.Given as goal

abbrev pub invariant-loop-i : goal.invariant-loop-i
invariant-loop-i l = (l.i ≤ max l.at (length l.s)) × (span_from l.solid l.stops l.ok l.i (drop l.i l.s) ≡ span_end l.solid l.stops l.s l.at)
