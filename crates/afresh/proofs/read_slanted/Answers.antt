-- `afresh::read_slanted` meets its contract. The name is begun with no byte.
-- Assumes nothing.
use Rattle.afresh.specs.Feeding.{state_of}
use Rattle.afresh.proofs.Choices.{slanted_bad, slanted_solid}
use borrow.Author.Tests.{eq-eqb}
use native.Mathlib.Omega.{arith}
use Rattle.afresh.specs.States.{in_slanted}
use Rattle.afresh.proofs.Feeding.{fed_at}
use Rattle.afresh.proofs.Handing.{handed_sound, fed_slanted}
use Rattle.afresh.proofs.read_slanted.Goals as goal

pub returns-then-b-eq96 : goal.returns-then-b-eq96
unfolding in_slanted
returns-then-b-eq96 c = rw (eq-eqb _ _ c.if-b-eq96.true) (fed_at c.requires c.at_state.ensures)

pub returns-then-r : goal.returns-then-r
returns-then-r c = rw (slanted_bad (state_of c.args.r c.args.name.now c.args.stack.now) c.args.b c.if-b-eq96.false c.if-r.true) (fed_at c.requires c.at_state-then-r.ensures)

pub read_solid-requires : goal.read_solid-requires
read_solid-requires c = handed_sound c.requires c.slanted.ensures (omega arith)

pub returns : goal.returns
returns c = rw (slanted_solid (state_of c.args.r c.args.name.now c.args.stack.now) c.args.b c.if-b-eq96.false c.if-r.false) (fed_slanted c.read_solid.result c.args.r c.args.b c.args.name.now c.args.stack.now c.read_solid.new.name c.read_solid.new.stack c.slanted.ensures c.read_solid.ensures)
