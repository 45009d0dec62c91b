-- `conditions::pair_at` meets its contract.
-- Assumes nothing.
use borrow.Author.Tests.{eq-eqb, ne_eqb}
use Rattle.conditions.proofs.Signs.{begins_byte, one_byte}
use Rattle.conditions.proofs.pair_at.Goals as goal

pub returns-then-peek-a : goal.returns-then-peek-a
returns-then-peek-a c = rw (begins_byte _ _ _ c.requires.1, ← c.peek.ensures, ne_eqb _ _ c.if-peek-a.true)

pub returns : goal.returns
returns c = rw (begins_byte _ _ _ c.requires.1, one_byte _ _ _ c.requires.2, ← c.peek.ensures, ← c.peek-2.ensures, eq-eqb _ _ c.if-peek-a.false)
