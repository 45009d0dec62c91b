-- `lex::slash_token` meets its contract. The definition branches as the code does.
-- Assumes nothing.
use borrow.Author.Tests.{eq-eqb, ne_eqb}
use Rattle.lex.specs.Tokens.{slash_token}
use Rattle.lex.proofs.slash_token.Goals as goal

pub returns-then-m : goal.returns-then-m
unfolding slash_token
returns-then-m c = simp c.if-m.true c.plain.ensures

pub returns-then-b-eq47 : goal.returns-then-b-eq47
unfolding slash_token
returns-then-b-eq47 c = simp (c.if-m.false, ← c.peek-b.ensures, eq-eqb _ _ c.if-b-eq47.true, ← c.scan_span.ensures) c.scanned.ensures

pub returns-then-b-eq42 : goal.returns-then-b-eq42
unfolding slash_token
returns-then-b-eq42 c = simp (c.if-m.false, ← c.peek-b.ensures, ne_eqb _ _ c.if-b-eq47.false, eq-eqb _ _ c.if-b-eq42.true, ← c.scan_block.ensures) c.scanned-then-b-eq42.ensures

pub returns : goal.returns
unfolding slash_token
returns c = simp (c.if-m.false, ← c.peek-b.ensures, ne_eqb _ _ c.if-b-eq47.false, ne_eqb _ _ c.if-b-eq42.false) c.plain-2.ensures
