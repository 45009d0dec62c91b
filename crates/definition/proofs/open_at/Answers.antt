-- `definition::open_at` meets its contract. It branches as its definition does.
-- Assumes nothing.
use Rattle.definition.specs.Heads.{open_at}
use Rattle.definition.proofs.open_at.Goals as goal

pub returns-then-t-u : goal.returns-then-t-u
unfolding open_at
returns-then-t-u c = simp (← c.in_definition.ensures, ← c.token_at-u.ensures, c.if-t-u.true)

pub returns : goal.returns
unfolding open_at
returns c = simp (← c.in_definition.ensures, ← c.token_at-u.ensures, c.if-t-u.false)
