-- `afresh::read_string` meets its contract. It branches as its definition does.
-- Assumes nothing.
use borrow.Author.Tests.{eq-eqb, ne_eqb}
use Rattle.afresh.specs.States.{in_string}
use Rattle.afresh.proofs.Feeding.{fed_at}
use Rattle.afresh.proofs.read_string.Goals as goal

pub returns-then-b-eq10 : goal.returns-then-b-eq10
unfolding in_string
returns-then-b-eq10 c n w s = simp (eq-eqb _ _ c.if-b-eq10.true) (fed_at s c.at_state.ensures)

pub returns-then-r-eq-ESCAPE : goal.returns-then-r-eq-ESCAPE
unfolding in_string
returns-then-r-eq-ESCAPE c n w s = simp (ne_eqb _ _ c.if-b-eq10.false, eq-eqb _ _ c.if-r-eq-ESCAPE.true) (fed_at s c.at_state-then-r-eq-ESCAPE.ensures)

pub returns-then-b-eq92 : goal.returns-then-b-eq92
unfolding in_string
returns-then-b-eq92 c n w s = simp (ne_eqb _ _ c.if-b-eq10.false, ne_eqb _ _ c.if-r-eq-ESCAPE.false, eq-eqb _ _ c.if-b-eq92.true) (fed_at s c.at_state-then-b-eq92.ensures)

pub returns-then-r-eq-OPEN : goal.returns-then-r-eq-OPEN
unfolding in_string
returns-then-r-eq-OPEN c n w s = simp (ne_eqb _ _ c.if-b-eq10.false, ne_eqb _ _ c.if-r-eq-ESCAPE.false, ne_eqb _ _ c.if-b-eq92.false, eq-eqb _ _ c.if-b-eq34.true, eq-eqb _ _ c.if-r-eq-OPEN.true) (fed_at s c.at_state-then-r-eq-OPEN.ensures)

pub returns-then-b-eq34 : goal.returns-then-b-eq34
unfolding in_string
returns-then-b-eq34 c n w s = simp (ne_eqb _ _ c.if-b-eq10.false, ne_eqb _ _ c.if-r-eq-ESCAPE.false, ne_eqb _ _ c.if-b-eq92.false, eq-eqb _ _ c.if-b-eq34.true, ne_eqb _ _ c.if-r-eq-OPEN.false) (fed_at s c.at_state-then-b-eq34.ensures)

pub returns : goal.returns
unfolding in_string
returns c n w s = simp (ne_eqb _ _ c.if-b-eq10.false, ne_eqb _ _ c.if-r-eq-ESCAPE.false, ne_eqb _ _ c.if-b-eq92.false, ne_eqb _ _ c.if-b-eq34.false) (fed_at s c.at_state-2.ensures)
