-- `lex::scan_block` meets its contract. The invariant: the scan from `i`, with whether a `*` stands before it and the legality so far, is the scan from `at`.
-- Assumes nothing.
use mathlib.Core.Path.{◌≡◌}
use Prim.Native.Nat.{◌≤◌, max}
use lib.ListN.{length, drop}
use Rattle.lex.specs.Scans.{block_from, block_end}
use Rattle.lex.proofs.scan_block.Given as goal

abbrev pub invariant-loop-i : goal.invariant-loop-i
invariant-loop-i l = (l.i ≤ max l.at (length l.s)) × (block_from l.star l.ok l.i (drop l.i l.s) ≡ block_end l.s l.at)
