-- `lex::escaped_grave` meets its contract. The definition branches as the code does.
-- Assumes nothing.
use Rattle.lex.specs.Tokens.{escaped_grave}
use Rattle.lex.proofs.escaped_grave.Goals as goal

pub returns-then-peek : goal.returns-then-peek
unfolding escaped_grave
returns-then-peek c = simp (← c.peek.ensures, ← c.peek-2.ensures, c.if-peek.true, ← c.mark_bar.ensures) c.plain.ensures

pub returns-then-m : goal.returns-then-m
unfolding escaped_grave
returns-then-m c = simp (← c.peek.ensures, ← c.peek-2.ensures, c.if-peek.false, c.if-m.true) c.plain-then-m.ensures

pub returns : goal.returns
unfolding escaped_grave
returns c = simp (← c.peek.ensures, ← c.peek-2.ensures, c.if-peek.false, c.if-m.false, ← c.scan_span.ensures) c.escaped_or.ensures
