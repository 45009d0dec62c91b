-- `genuine::named_from` meets its contract. The invariant: whether one of the formals from `at` on has the name is the same of those from `i` on, and `i` has moved by a bounded length for each formal passed.
-- Assumes nothing.
use mathlib.Core.Path.{◌≡◌}
use Prim.Native.Nat.{◌+◌, ◌-◌, ◌*◌, ◌≤◌}
use Rattle.genuine.specs.Layout.{named_from}
use Rattle.genuine.proofs.named_from.Given as goal

abbrev pub invariant-loop : goal.invariant-loop
invariant-loop l = (named_from (l.count - l.counter) l.b l.i l.w ≡ named_from l.count l.b l.at l.w) × (l.i ≤ l.at + 131075 * l.counter)
