-- `lex::backslash_token` meets its contract. The definition branches as the code does.
-- Assumes nothing.
use Rattle.lex.specs.Tokens.{backslash_token}
use Rattle.lex.proofs.backslash_token.Goals as goal

pub returns-then-m-peek : goal.returns-then-m-peek
unfolding backslash_token
returns-then-m-peek c = simp (← c.peek.ensures, c.if-m-peek.true) c.plain.ensures

pub returns-then-m : goal.returns-then-m
unfolding backslash_token
returns-then-m c = simp (← c.peek.ensures, c.if-m-peek.false, c.if-m.true) c.plain-then-m.ensures

pub returns : goal.returns
unfolding backslash_token
returns c = simp (← c.peek.ensures, c.if-m-peek.false, c.if-m.false, ← c.scan_span.ensures) c.escaped_or.ensures
