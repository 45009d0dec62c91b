-- `reach::union` meets its contract: bit by bit.
-- Assumes nothing.
use native.Mathlib.Omega.{arith}
use Rattle.reach.proofs.Either.{in_either}
use Rattle.reach.proofs.union.Goals as goal

pub returns : goal.returns
returns c i = let s = c.args in
    in_either s.a s.b
    (record { fits0 = omega arith; fits1 = omega arith; fits2 = omega arith })
    (record { fits0 = omega arith; fits1 = omega arith; fits2 = omega arith }) i
