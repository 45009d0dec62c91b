-- `lex::sign_token` meets its contract. The definition branches as the code does.
-- Assumes nothing.
use borrow.Author.Tests.{eq-eqb, ne_eqb}
use Rattle.lex.specs.Tokens.{sign_token}
use Rattle.lex.proofs.sign_token.Goals as goal

pub returns-then-b-eq34 : goal.returns-then-b-eq34
unfolding sign_token
returns-then-b-eq34 c = simp (eq-eqb _ _ c.if-b-eq34.true) c.string_token.ensures

pub returns-then-b-eq47 : goal.returns-then-b-eq47
unfolding sign_token
returns-then-b-eq47 c = simp (ne_eqb _ _ c.if-b-eq34.false, eq-eqb _ _ c.if-b-eq47.true) c.slash_token.ensures

pub returns-then-b-eq92 : goal.returns-then-b-eq92
unfolding sign_token
returns-then-b-eq92 c = simp (ne_eqb _ _ c.if-b-eq34.false, ne_eqb _ _ c.if-b-eq47.false, eq-eqb _ _ c.if-b-eq92.true) c.backslash_token.ensures

pub returns-then-b-eq39 : goal.returns-then-b-eq39
unfolding sign_token
returns-then-b-eq39 c = simp (ne_eqb _ _ c.if-b-eq34.false, ne_eqb _ _ c.if-b-eq47.false, ne_eqb _ _ c.if-b-eq92.false, eq-eqb _ _ c.if-b-eq39.true) c.based_token.ensures

pub returns-then-b-eq96 : goal.returns-then-b-eq96
unfolding sign_token
returns-then-b-eq96 c = simp (ne_eqb _ _ c.if-b-eq34.false, ne_eqb _ _ c.if-b-eq47.false, ne_eqb _ _ c.if-b-eq92.false, ne_eqb _ _ c.if-b-eq39.false, eq-eqb _ _ c.if-b-eq96.true) c.grave_token.ensures

pub returns : goal.returns
unfolding sign_token
returns c = simp (ne_eqb _ _ c.if-b-eq34.false, ne_eqb _ _ c.if-b-eq47.false, ne_eqb _ _ c.if-b-eq92.false, ne_eqb _ _ c.if-b-eq39.false, ne_eqb _ _ c.if-b-eq96.false, ← c.byte_bar.ensures) c.plain.ensures
