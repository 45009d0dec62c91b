-- `conditions::triple_at` meets its contract.
-- Assumes nothing.
use native.Mathlib.Omega.{arith}
use borrow.Author.Tests.{eq-eqb, ne_eqb}
use Rattle.conditions.proofs.Signs.{begins_byte, byte_inside}
use Rattle.conditions.proofs.triple_at.Goals as goal

pub returns-then-peek-a : goal.returns-then-peek-a
returns-then-peek-a c = rw (begins_byte _ _ _ c.requires.1, ← c.peek.ensures, ne_eqb _ _ c.if-peek-a.true)

pub pair_at-requires : goal.pair_at-requires
pair_at-requires c = (omega (arith, byte_inside c.args.s.now c.args.at _ c.requires.1 c.peek.ensures c.if-peek-a.false), c.requires.2, c.requires.3)

pub returns : goal.returns
returns c = rw (begins_byte _ _ _ c.requires.1, ← c.peek.ensures, ← c.pair_at.ensures, eq-eqb _ _ c.if-peek-a.false)
