-- `lex::digits_token` meets its contract. The definition branches as the code does.
-- Assumes nothing.
use Rattle.lex.specs.Tokens.{digits_token}
use Rattle.lex.proofs.digits_token.Goals as goal

pub returns-then-is_base : goal.returns-then-is_base
unfolding digits_token
returns-then-is_base c = simp (← c.peek.ensures, ← c.is_base.ensures, c.if-is_base.true, ← c.run.ensures) c.plain.ensures

pub returns : goal.returns
unfolding digits_token
returns c = simp (← c.peek.ensures, ← c.is_base.ensures, c.if-is_base.false) c.plain-2.ensures
