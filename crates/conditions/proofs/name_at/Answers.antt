-- `conditions::name_at` meets its contract.
-- Assumes nothing.
use Rattle.conditions.specs.Grammar.{name_at}
use Rattle.conditions.proofs.name_at.Goals as goal

pub returns-then-t : goal.returns-then-t
unfolding name_at
returns-then-t c ms h = simp (← c.in_file.ensures, ← c.token_at-t.ensures, c.if-t.true, ← c.part_of.ensures, ← c.is_defined-is.ensures ms h)

pub returns : goal.returns
unfolding name_at
returns c ms h = simp (← c.in_file.ensures, ← c.token_at-t.ensures, c.if-t.false) c.refuse.ensures
