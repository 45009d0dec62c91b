-- `afresh::read_doubt` meets its contract. The name has as many bytes as it counts.
-- Assumes nothing.
use borrow.Author.Tests.{eq-eqb, ne_eqb, le-ltb, lt-ltb}
use native.Mathlib.Omega.{arith}
use Rattle.afresh.specs.States.{in_doubt}
use Rattle.afresh.proofs.Feeding.{name_length, fed_at}
use Rattle.afresh.proofs.Handing.{fed_line}
use Rattle.afresh.proofs.read_doubt.Goals as goal

pub returns-then-r-gt1024 : goal.returns-then-r-gt1024
unfolding in_doubt
returns-then-r-gt1024 c = rw (name_length c.args.r c.args.name.now c.args.stack.now (omega arith), lt-ltb _ _ c.if-r-gt1024.true) (fed_at c.requires c.at_state.ensures)

pub returns-then-b-eq10 : goal.returns-then-b-eq10
unfolding in_doubt
returns-then-b-eq10 c = rw (name_length c.args.r c.args.name.now c.args.stack.now (omega arith), le-ltb _ _ c.if-r-gt1024.false, eq-eqb _ _ c.if-b-eq10.true) (fed_line c.requires c.at_line.ensures)

pub returns : goal.returns
unfolding in_doubt
returns c = rw (name_length c.args.r c.args.name.now c.args.stack.now (omega arith), le-ltb _ _ c.if-r-gt1024.false, ne_eqb _ _ c.if-b-eq10.false) c.read_solid.ensures
