-- `afresh::read_marked` meets its contract. It branches as its definition does.
-- Assumes nothing.
use borrow.Author.Tests.{eq-eqb, ne_eqb}
use Rattle.afresh.specs.States.{in_marked}
use Rattle.afresh.proofs.Feeding.{fed_at}
use Rattle.afresh.proofs.read_marked.Goals as goal

pub returns-then-r-eq-SOLID : goal.returns-then-r-eq-SOLID
unfolding in_marked
returns-then-r-eq-SOLID c = simp (eq-eqb _ _ c.if-r-eq-SOLID.true) c.read_solid.ensures

pub returns-then-r-eq-DOUBT : goal.returns-then-r-eq-DOUBT
unfolding in_marked
returns-then-r-eq-DOUBT c = simp (ne_eqb _ _ c.if-r-eq-SOLID.false, eq-eqb _ _ c.if-r-eq-DOUBT.true) c.read_doubt.ensures

pub returns-then-r-eq-LINE : goal.returns-then-r-eq-LINE
unfolding in_marked
returns-then-r-eq-LINE c = simp (ne_eqb _ _ c.if-r-eq-SOLID.false, ne_eqb _ _ c.if-r-eq-DOUBT.false, eq-eqb _ _ c.if-r-eq-LINE.true) c.read_line.ensures

pub returns-then-r-eq-ACCENT : goal.returns-then-r-eq-ACCENT
unfolding in_marked
returns-then-r-eq-ACCENT c = simp (ne_eqb _ _ c.if-r-eq-SOLID.false, ne_eqb _ _ c.if-r-eq-DOUBT.false, ne_eqb _ _ c.if-r-eq-LINE.false, eq-eqb _ _ c.if-r-eq-ACCENT.true) (c.read_accent.ensures c.args.stack.now c.requires.depth)

pub returns-then-r-eq-SLANTED : goal.returns-then-r-eq-SLANTED
unfolding in_marked
returns-then-r-eq-SLANTED c = simp (ne_eqb _ _ c.if-r-eq-SOLID.false, ne_eqb _ _ c.if-r-eq-DOUBT.false, ne_eqb _ _ c.if-r-eq-LINE.false, ne_eqb _ _ c.if-r-eq-ACCENT.false, eq-eqb _ _ c.if-r-eq-SLANTED.true) c.read_slanted.ensures

pub returns-then-r-eq-TWICE : goal.returns-then-r-eq-TWICE
unfolding in_marked
returns-then-r-eq-TWICE c = simp (ne_eqb _ _ c.if-r-eq-SOLID.false, ne_eqb _ _ c.if-r-eq-DOUBT.false, ne_eqb _ _ c.if-r-eq-LINE.false, ne_eqb _ _ c.if-r-eq-ACCENT.false, ne_eqb _ _ c.if-r-eq-SLANTED.false, eq-eqb _ _ c.if-r-eq-TWICE.true) c.read_twice.ensures

pub returns : goal.returns
unfolding in_marked
returns c = simp (ne_eqb _ _ c.if-r-eq-SOLID.false, ne_eqb _ _ c.if-r-eq-DOUBT.false, ne_eqb _ _ c.if-r-eq-LINE.false, ne_eqb _ _ c.if-r-eq-ACCENT.false, ne_eqb _ _ c.if-r-eq-SLANTED.false, ne_eqb _ _ c.if-r-eq-TWICE.false) (fed_at c.requires c.at_state.ensures)
