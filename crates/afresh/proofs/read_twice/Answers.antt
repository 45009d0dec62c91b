-- `afresh::read_twice` meets its contract. The name is begun with a grave accent.
-- Assumes nothing.
use Rattle.afresh.specs.Feeding.{state_of}
use Rattle.afresh.proofs.Choices.{twice_bad, twice_solid}
use borrow.Author.Tests.{eq-eqb}
use native.Mathlib.Omega.{arith}
use Rattle.afresh.specs.States.{in_twice}
use Rattle.afresh.proofs.Feeding.{fed_at}
use Rattle.afresh.proofs.Handing.{handed_sound, fed_twice, accent_sound}
use Rattle.afresh.proofs.read_twice.Goals as goal

pub returns-then-b-eq34 : goal.returns-then-b-eq34
unfolding in_twice
returns-then-b-eq34 c = rw (eq-eqb _ _ c.if-b-eq34.true) (fed_at c.requires c.at_state.ensures)

pub returns-then-r : goal.returns-then-r
returns-then-r c = rw (twice_bad (state_of c.args.r c.args.name.now c.args.stack.now) c.args.b c.if-b-eq34.false c.if-r.true) (fed_at c.requires c.at_state-then-r.ensures)

pub read_solid-requires : goal.read_solid-requires
read_solid-requires c = handed_sound (accent_sound c.requires) c.slanted.ensures (omega arith)

pub returns : goal.returns
returns c = rw (twice_solid (state_of c.args.r c.args.name.now c.args.stack.now) c.args.b c.if-b-eq34.false c.if-r.false) (fed_twice c.read_solid.result c.args.r c.args.b c.args.name.now c.args.stack.now c.read_solid.new.name c.read_solid.new.stack c.requires.long c.slanted.ensures c.read_solid.ensures)
