-- `genuine::formals_fit` meets its contract. The invariant: the test of all formals is that of those from `i` on, and the lent buffers keep their lengths.
-- Assumes nothing.
use mathlib.Core.Path.{◌≡◌}
use Prim.Native.Nat.{◌≤◌}
use lib.ListN.{length}
use Rattle.genuine.specs.Layout.{formals_fit}
use Rattle.genuine.proofs.formals_fit.Given as goal

abbrev pub invariant-loop-more : goal.invariant-loop-more
invariant-loop-more l = (formals_fit l.more l.b l.i l.end ≡ formals_fit l.count l.b l.at l.end) × (l.i ≤ 65536) × (l.more ≤ 16) × (length l.name ≡ length l.initial.name) × (length l.stack ≡ length l.initial.stack)
