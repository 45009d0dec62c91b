-- `afresh::read_accent` meets its contract. It branches as its definition does.
-- Assumes nothing.
use borrow.Author.Tests.{eq-eqb, ne_eqb}
use Rattle.afresh.specs.States.{in_accent}
use Rattle.afresh.proofs.Feeding.{sound, fed_at, fed_turned}
use Rattle.afresh.proofs.read_accent.Goals as goal

pub returns-then-is_start : goal.returns-then-is_start
unfolding in_accent
returns-then-is_start c w h = simp (← c.is_start.ensures, c.if-is_start.true) (c.start_name.ensures w h)

pub returns-then-b-eq34 : goal.returns-then-b-eq34
unfolding in_accent
returns-then-b-eq34 c w h = simp (← c.is_start.ensures, c.if-is_start.false, eq-eqb _ _ c.if-b-eq34.true) (fed_turned (sound c.args.r c.args.name.now w c.requires.0 c.requires.1 h) c.turned.ensures)

pub returns-then-b-eq96 : goal.returns-then-b-eq96
unfolding in_accent
returns-then-b-eq96 c w h = simp (← c.is_start.ensures, c.if-is_start.false, ne_eqb _ _ c.if-b-eq34.false, eq-eqb _ _ c.if-b-eq96.true) (fed_at (sound c.args.r c.args.name.now w c.requires.0 c.requires.1 h) c.at_state.ensures)

pub returns-then-b-eq92 : goal.returns-then-b-eq92
unfolding in_accent
returns-then-b-eq92 c w h = simp (← c.is_start.ensures, c.if-is_start.false, ne_eqb _ _ c.if-b-eq34.false, ne_eqb _ _ c.if-b-eq96.false, eq-eqb _ _ c.if-b-eq92.true) (fed_at (sound c.args.r c.args.name.now w c.requires.0 c.requires.1 h) c.at_state-then-b-eq92.ensures)

pub returns : goal.returns
unfolding in_accent
returns c w h = simp (← c.is_start.ensures, c.if-is_start.false, ne_eqb _ _ c.if-b-eq34.false, ne_eqb _ _ c.if-b-eq96.false, ne_eqb _ _ c.if-b-eq92.false) (fed_at (sound c.args.r c.args.name.now w c.requires.0 c.requires.1 h) c.at_state-2.ensures)
