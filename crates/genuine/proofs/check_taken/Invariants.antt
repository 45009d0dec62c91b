-- `genuine::check_taken` meets its contract. The invariant: the test of all records is that of those from `i` on, and the lent buffers keep their lengths.
-- Assumes nothing.
use mathlib.Core.List.{[]}
use mathlib.Core.Path.{◌≡◌}
use lib.ListN.{length, drop}
use Rattle.text.specs.Bytes.{part}
use Rattle.genuine.specs.Layout.{left_from}
use Rattle.genuine.proofs.check_taken.Given as goal

abbrev pub invariant-loop-i : goal.invariant-loop-i
invariant-loop-i l = (left_from l.i l.bytes l.end (part l.bytes l.from l.to) (drop l.i l.records) ≡ left_from 0 l.bytes 0 [] l.records) × (length l.name ≡ length l.initial.name) × (length l.stack ≡ length l.initial.stack)
