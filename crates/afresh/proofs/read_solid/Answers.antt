-- `afresh::read_solid` meets its contract. It branches as its definition does.
-- Assumes nothing.
use borrow.Author.Tests.{eq-eqb, ne_eqb}
use Rattle.afresh.specs.States.{in_solid}
use Rattle.afresh.proofs.read_solid.Goals as goal

pub returns-then-is_space : goal.returns-then-is_space
unfolding in_solid
returns-then-is_space c = simp (← c.is_space.ensures, c.if-is_space.true) c.read_closed.ensures

pub returns-then-b-eq92 : goal.returns-then-b-eq92
unfolding in_solid
returns-then-b-eq92 c = simp (← c.is_space.ensures, c.if-is_space.false, eq-eqb _ _ c.if-b-eq92.true) (c.add_byte.ensures c.args.stack.now c.requires.depth)

pub returns : goal.returns
unfolding in_solid
returns c = simp (← c.is_space.ensures, c.if-is_space.false, ne_eqb _ _ c.if-b-eq92.false) (c.add_byte-2.ensures c.args.stack.now c.requires.depth)
