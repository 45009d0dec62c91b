use mathlib.Core.List.{[], ◌∷◌}
use lib.ListN.{drop_of_length-le}
use Rattle.storing.proofs.Adding.{drop_more}
use Rattle.afresh.specs.States.{reading}
use Rattle.judging.proofs.Feeding.{feeding_first, feeding_end, feeding_next, feeding_short}
use Rattle.judging.proofs.read_bytes.Goals as goal

pub loop-b-init : goal.loop-b-init
loop-b-init c = feeding_first c.requires

pub read_byte-requires : goal.read_byte-requires
read_byte-requires c = c.loop-b.invariant.sound

pub returns-in_err-q : goal.returns-in_err-q
returns-in_err-q c = rw c.from_residual.ensures (feeding_short c.loop-b.invariant (_ ∷ []) _ (drop_more _ _ c.loop-b-test.true) c.in_err-q.ensures)

pub loop-b-preserved : goal.loop-b-preserved
unfolding reading
loop-b-preserved c = feeding_next c.loop-b.invariant (_ ∷ []) _ (drop_more _ _ c.loop-b-test.true) c.in_ok-q.ensures c.read_byte.auto.name c.read_byte.auto.stack

pub returns : goal.returns
returns c = feeding_end c.loop-b.invariant (drop_of_length-le c.args.w.now c.loop-b-test.false)
