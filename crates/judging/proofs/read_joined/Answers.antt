use mathlib.Core.Path.{ap}
use lib.ListN.{drop_of_length-le}
use Rattle.storing.specs.Stored.{given, joined_from}
use Rattle.storing.proofs.Adding.{drop_more}
use Rattle.judging.proofs.Feeding.{feeding_first, feeding_last, feeding_next, feeding_short}
use Rattle.judging.proofs.read_joined.Goals as goal

pub loop-b-init : goal.loop-b-init
loop-b-init c = feeding_first c.requires

pub read_string_byte-requires : goal.read_string_byte-requires
read_string_byte-requires c = c.loop-b.invariant.sound

pub returns-in_err-q : goal.returns-in_err-q
unfolding joined_from
returns-in_err-q c = rw c.from_residual.ensures (feeding_short c.loop-b.invariant (given c.loop-b.escaped _) _ (ap (joined_from c.loop-b.escaped) (drop_more _ _ c.loop-b-test.true)) c.in_err-q.ensures)

pub loop-b-preserved : goal.loop-b-preserved
unfolding joined_from
loop-b-preserved c = feeding_next c.loop-b.invariant (given c.loop-b.escaped _) _ (ap (joined_from c.loop-b.escaped) (drop_more _ _ c.loop-b-test.true)) c.in_ok-q.ensures c.read_string_byte.auto.name c.read_string_byte.auto.stack

pub read_rest-requires : goal.read_rest-requires
read_rest-requires c = c.loop-b.invariant.sound

pub returns : goal.returns
returns c = feeding_last c.loop-b.invariant c.read_rest.new.name c.read_rest.new.stack c.read_rest.result (rw (drop_of_length-le c.args.w.now c.loop-b-test.false) c.read_rest.ensures)
