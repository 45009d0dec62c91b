-- `lex::scan_string` meets its contract. The invariant: the scan from `i`, with whether the byte is escaped and the legality so far, is the scan from `at`.
-- Assumes nothing.
use mathlib.Core.Path.{◌≡◌}
use Prim.Native.Nat.{◌≤◌, max}
use lib.ListN.{length, drop}
use Rattle.lex.specs.Scans.{string_from, string_end}
use Rattle.lex.proofs.scan_string.Given as goal

abbrev pub invariant-loop-i : goal.invariant-loop-i
invariant-loop-i l = (l.i ≤ max l.at (length l.s)) × (string_from l.escaped l.ok l.i (drop l.i l.s) ≡ string_end l.s l.at)
