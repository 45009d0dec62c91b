-- `lex::string_token` meets its contract. The definition branches as the code does.
-- Assumes nothing.
use Rattle.lex.specs.Tokens.{string_token}
use Rattle.lex.proofs.string_token.Goals as goal

pub returns-then-peek : goal.returns-then-peek
unfolding string_token
returns-then-peek c = simp (← c.peek.ensures, ← c.peek-2.ensures, c.if-peek.true) c.plain.ensures

pub returns : goal.returns
unfolding string_token
returns c = simp (← c.peek.ensures, ← c.peek-2.ensures, c.if-peek.false, ← c.scan_string.ensures) c.scanned.ensures
