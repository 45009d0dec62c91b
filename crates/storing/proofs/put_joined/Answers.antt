use mathlib.Core.Path.{ap}
use lib.ListN.{drop_of_length-le}
use Rattle.storing.specs.Stored.{given, joined_from}
use Rattle.storing.proofs.Adding.{adding_first, adding_last, adding_next, adding_short, drop_more}
use Rattle.storing.proofs.put_joined.Goals as goal

pub loop-b-init : goal.loop-b-init
loop-b-init c = rw c.part_of-b-items.ensures (adding_first c.requires.0 c.requires.1)

pub returns-in_err-k : goal.returns-in_err-k
unfolding joined_from
returns-in_err-k c = rw c.from_residual.ensures (adding_short c.loop-b.invariant (given c.loop-b.escaped _) _ (ap (joined_from c.loop-b.escaped) (drop_more _ _ c.loop-b-test.true)) c.in_err-k.ensures)

pub loop-b-preserved : goal.loop-b-preserved
unfolding joined_from
loop-b-preserved c = adding_next c.loop-b.invariant (given c.loop-b.escaped _) _ (ap (joined_from c.loop-b.escaped) (drop_more _ _ c.loop-b-test.true)) c.in_ok-k.ensures

pub returns : goal.returns
returns c = adding_last c.loop-b.invariant c.put_rest.new.out c.put_rest.result (rw (drop_of_length-le c.part_of-b-items.result.now c.loop-b-test.false) c.put_rest.ensures)
