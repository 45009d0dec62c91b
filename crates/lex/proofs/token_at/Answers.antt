-- `lex::token_at` meets its contract. The definition branches as the code does.
-- Assumes nothing.
use borrow.Author.Tests.{le-leb, lt-leb, eq-eqb, ne_eqb}
use Rattle.lex.specs.Tokens.{token_at}
use Rattle.lex.proofs.token_at.Goals as goal

pub returns-then-s-at : goal.returns-then-s-at
unfolding token_at
returns-then-s-at c = simp (le-leb _ _ c.if-s-at.true) c.plain.ensures

pub returns-then-is_white : goal.returns-then-is_white
unfolding token_at
returns-then-is_white c = simp (lt-leb _ _ c.if-s-at.false, ← c.is_white.ensures, c.if-is_white.true) c.plain-then-is_white.ensures

pub returns-then-is_start : goal.returns-then-is_start
unfolding token_at
returns-then-is_start c = simp (lt-leb _ _ c.if-s-at.false, ← c.is_white.ensures, c.if-is_white.false, ← c.is_start.ensures, c.if-is_start.true, ← c.run.ensures) c.named.ensures

pub returns-then-is_digit : goal.returns-then-is_digit
unfolding token_at
returns-then-is_digit c = simp (lt-leb _ _ c.if-s-at.false, ← c.is_white.ensures, c.if-is_white.false, ← c.is_start.ensures, c.if-is_start.false, ← c.is_digit.ensures, c.if-is_digit.true, ← c.run-then-is_digit.ensures) c.plain-then-is_digit.ensures

pub returns-then-b-eq10 : goal.returns-then-b-eq10
unfolding token_at
returns-then-b-eq10 c = simp (lt-leb _ _ c.if-s-at.false, ← c.is_white.ensures, c.if-is_white.false, ← c.is_start.ensures, c.if-is_start.false, ← c.is_digit.ensures, c.if-is_digit.false, eq-eqb _ _ c.if-b-eq10.true) c.plain-then-b-eq10.ensures

pub returns-then-b-eq36 : goal.returns-then-b-eq36
unfolding token_at
returns-then-b-eq36 c = simp (lt-leb _ _ c.if-s-at.false, ← c.is_white.ensures, c.if-is_white.false, ← c.is_start.ensures, c.if-is_start.false, ← c.is_digit.ensures, c.if-is_digit.false, ne_eqb _ _ c.if-b-eq10.false, eq-eqb _ _ c.if-b-eq36.true, ← c.run-then-b-eq36.ensures) c.plain-then-b-eq36.ensures

pub returns : goal.returns
unfolding token_at
returns c = simp (lt-leb _ _ c.if-s-at.false, ← c.is_white.ensures, c.if-is_white.false, ← c.is_start.ensures, c.if-is_start.false, ← c.is_digit.ensures, c.if-is_digit.false, ne_eqb _ _ c.if-b-eq10.false, ne_eqb _ _ c.if-b-eq36.false) c.sign_token.ensures
