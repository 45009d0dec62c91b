-- `lex::grave_token` meets its contract. The definition branches as the code does.
-- Assumes nothing.
use borrow.Author.Tests.{eq-eqb, ne_eqb}
use Rattle.lex.specs.Tokens.{grave_token}
use Rattle.lex.proofs.grave_token.Goals as goal

pub returns-then-is_start : goal.returns-then-is_start
unfolding grave_token
returns-then-is_start c = simp (← c.peek-b.ensures, ← c.is_start.ensures, c.if-is_start.true, ← c.run.ensures) c.named.ensures

pub returns-then-b-eq34 : goal.returns-then-b-eq34
unfolding grave_token
returns-then-b-eq34 c = simp (← c.peek-b.ensures, ← c.is_start.ensures, c.if-is_start.false, eq-eqb _ _ c.if-b-eq34.true, ← c.mark_bar.ensures) c.plain.ensures

pub returns-then-b-eq96 : goal.returns-then-b-eq96
unfolding grave_token
returns-then-b-eq96 c = simp (← c.peek-b.ensures, ← c.is_start.ensures, c.if-is_start.false, ne_eqb _ _ c.if-b-eq34.false, eq-eqb _ _ c.if-b-eq96.true, ← c.mark_bar-then-b-eq96.ensures) c.plain-then-b-eq96.ensures

pub returns-then-b-eq92 : goal.returns-then-b-eq92
unfolding grave_token
returns-then-b-eq92 c = simp (← c.peek-b.ensures, ← c.is_start.ensures, c.if-is_start.false, ne_eqb _ _ c.if-b-eq34.false, ne_eqb _ _ c.if-b-eq96.false, eq-eqb _ _ c.if-b-eq92.true) c.escaped_grave.ensures

pub returns : goal.returns
unfolding grave_token
returns c = simp (← c.peek-b.ensures, ← c.is_start.ensures, c.if-is_start.false, ne_eqb _ _ c.if-b-eq34.false, ne_eqb _ _ c.if-b-eq96.false, ne_eqb _ _ c.if-b-eq92.false) c.plain-2.ensures
