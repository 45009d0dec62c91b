-- `afresh::read_fresh` meets its contract. It branches as its definition does.
-- Assumes nothing.
use borrow.Author.Tests.{eq-eqb, ne_eqb}
use Rattle.afresh.specs.States.{fresh}
use Rattle.afresh.proofs.Feeding.{fed_at, fed_marked, fed_plain}
use Rattle.afresh.proofs.read_fresh.Goals as goal

pub returns-then-is_white : goal.returns-then-is_white
unfolding fresh
returns-then-is_white c = simp (← c.is_white.ensures, c.if-is_white.true) (fed_at c.requires c.at_state.ensures)

pub returns-then-is_start : goal.returns-then-is_start
unfolding fresh
returns-then-is_start c = simp (← c.is_white.ensures, c.if-is_white.false, ← c.is_start.ensures, c.if-is_start.true) (c.start_name.ensures c.args.stack.now c.requires.depth)

pub returns-then-is_digit-b : goal.returns-then-is_digit-b
unfolding fresh
returns-then-is_digit-b c = simp (← c.is_white.ensures, c.if-is_white.false, ← c.is_start.ensures, c.if-is_start.false, ← c.is_digit.ensures, c.if-is_digit-b.true) (fed_at c.requires c.at_state-then-is_digit-b.ensures)

pub returns-then-r : goal.returns-then-r
unfolding fresh
returns-then-r c = simp (← c.is_white.ensures, c.if-is_white.false, ← c.is_start.ensures, c.if-is_start.false, ← c.is_digit.ensures, c.if-is_digit-b.false, eq-eqb _ _ c.if-b-eq10.true) (fed_marked c.requires c.if-r.true c.at_state-then-r.ensures)

pub returns-then-b-eq10 : goal.returns-then-b-eq10
unfolding fresh
returns-then-b-eq10 c = simp (← c.is_white.ensures, c.if-is_white.false, ← c.is_start.ensures, c.if-is_start.false, ← c.is_digit.ensures, c.if-is_digit-b.false, eq-eqb _ _ c.if-b-eq10.true) (fed_plain c.requires c.if-r.false c.at_state-then-b-eq10.ensures)

pub returns-then-b-eq34 : goal.returns-then-b-eq34
unfolding fresh
returns-then-b-eq34 c = simp (← c.is_white.ensures, c.if-is_white.false, ← c.is_start.ensures, c.if-is_start.false, ← c.is_digit.ensures, c.if-is_digit-b.false, ne_eqb _ _ c.if-b-eq10.false, eq-eqb _ _ c.if-b-eq34.true) (fed_at c.requires c.at_state-then-b-eq34.ensures)

pub returns-then-b-eq39 : goal.returns-then-b-eq39
unfolding fresh
returns-then-b-eq39 c = simp (← c.is_white.ensures, c.if-is_white.false, ← c.is_start.ensures, c.if-is_start.false, ← c.is_digit.ensures, c.if-is_digit-b.false, ne_eqb _ _ c.if-b-eq10.false, ne_eqb _ _ c.if-b-eq34.false, eq-eqb _ _ c.if-b-eq39.true) (fed_at c.requires c.at_state-then-b-eq39.ensures)

pub returns-then-b-eq96 : goal.returns-then-b-eq96
unfolding fresh
returns-then-b-eq96 c = simp (← c.is_white.ensures, c.if-is_white.false, ← c.is_start.ensures, c.if-is_start.false, ← c.is_digit.ensures, c.if-is_digit-b.false, ne_eqb _ _ c.if-b-eq10.false, ne_eqb _ _ c.if-b-eq34.false, ne_eqb _ _ c.if-b-eq39.false, eq-eqb _ _ c.if-b-eq96.true) (fed_at c.requires c.at_state-then-b-eq96.ensures)

pub returns : goal.returns
unfolding fresh
returns c = simp (← c.is_white.ensures, c.if-is_white.false, ← c.is_start.ensures, c.if-is_start.false, ← c.is_digit.ensures, c.if-is_digit-b.false, ne_eqb _ _ c.if-b-eq10.false, ne_eqb _ _ c.if-b-eq34.false, ne_eqb _ _ c.if-b-eq39.false, ne_eqb _ _ c.if-b-eq96.false) (c.read_sign.ensures c.args.name.now c.requires.long c.requires.count)
