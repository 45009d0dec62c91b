-- `lex::based_token` meets its contract. The definition branches as the code does.
-- Assumes nothing.
use Rattle.lex.specs.Tokens.{based_token}
use Rattle.lex.proofs.based_token.Goals as goal

pub returns-then-is_sign : goal.returns-then-is_sign
unfolding based_token
returns-then-is_sign c = simp (← c.peek.ensures, ← c.is_sign.ensures, c.if-is_sign.true) c.digits_token.ensures

pub returns : goal.returns
unfolding based_token
returns c = simp (← c.peek.ensures, ← c.is_sign.ensures, c.if-is_sign.false) c.digits_token-2.ensures
