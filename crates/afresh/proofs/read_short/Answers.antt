-- `afresh::read_short` meets its contract. It branches as its definition does.
-- Assumes nothing.
use borrow.Author.Tests.{eq-eqb, ne_eqb}
use Rattle.afresh.specs.States.{in_short}
use Rattle.afresh.proofs.Feeding.{fed_at}
use Rattle.afresh.proofs.read_short.Goals as goal

pub returns-then-r-eq-TICK : goal.returns-then-r-eq-TICK
unfolding in_short
returns-then-r-eq-TICK c = simp (eq-eqb _ _ c.if-r-eq-TICK.true) c.read_tick.ensures

pub returns-then-is_base : goal.returns-then-is_base
unfolding in_short
returns-then-is_base c = simp (ne_eqb _ _ c.if-r-eq-TICK.false, eq-eqb _ _ c.if-r-eq-SIGN.true, ← c.is_base.ensures, c.if-is_base.true) (fed_at c.requires c.at_state.ensures)

pub returns-then-r-eq-SIGN : goal.returns-then-r-eq-SIGN
unfolding in_short
returns-then-r-eq-SIGN c = simp (ne_eqb _ _ c.if-r-eq-TICK.false, eq-eqb _ _ c.if-r-eq-SIGN.true, ← c.is_base.ensures, c.if-is_base.false) c.read_word.ensures

pub returns-then-b-eq34 : goal.returns-then-b-eq34
unfolding in_short
returns-then-b-eq34 c = simp (ne_eqb _ _ c.if-r-eq-TICK.false, ne_eqb _ _ c.if-r-eq-SIGN.false, eq-eqb _ _ c.if-r-eq-PAIR.true, eq-eqb _ _ c.if-b-eq34.true) (fed_at c.requires c.at_state-then-b-eq34.ensures)

pub returns-then-r-eq-PAIR : goal.returns-then-r-eq-PAIR
unfolding in_short
returns-then-r-eq-PAIR c = simp (ne_eqb _ _ c.if-r-eq-TICK.false, ne_eqb _ _ c.if-r-eq-SIGN.false, eq-eqb _ _ c.if-r-eq-PAIR.true, ne_eqb _ _ c.if-b-eq34.false) c.read_fresh.ensures

pub returns-then-b : goal.returns-then-b
unfolding in_short
returns-then-b c = simp (ne_eqb _ _ c.if-r-eq-TICK.false, ne_eqb _ _ c.if-r-eq-SIGN.false, ne_eqb _ _ c.if-r-eq-PAIR.false, eq-eqb _ _ c.if-r-eq-SLASH.true, c.if-b.true) (fed_at c.requires c.at_state-then-b.ensures)

pub returns-then-r-eq-SLASH : goal.returns-then-r-eq-SLASH
unfolding in_short
returns-then-r-eq-SLASH c = simp (ne_eqb _ _ c.if-r-eq-TICK.false, ne_eqb _ _ c.if-r-eq-SIGN.false, ne_eqb _ _ c.if-r-eq-PAIR.false, eq-eqb _ _ c.if-r-eq-SLASH.true, c.if-b.false) c.read_fresh-then-r-eq-SLASH.ensures

pub returns : goal.returns
unfolding in_short
returns c = simp (ne_eqb _ _ c.if-r-eq-TICK.false, ne_eqb _ _ c.if-r-eq-SIGN.false, ne_eqb _ _ c.if-r-eq-PAIR.false, ne_eqb _ _ c.if-r-eq-SLASH.false) c.read_marked.ensures
