use mathlib.Core.List.{[], ◌∷◌}
use Rattle.storing.proofs.Adding.{adding_first, adding_next, adding_short, drop_more}
use Rattle.storing.proofs.put_bytes.Goals as goal

pub loop-b-init : goal.loop-b-init
loop-b-init c = rw c.part_of-b-items.ensures (adding_first c.requires.0 c.requires.1)

pub returns-in_err-k : goal.returns-in_err-k
returns-in_err-k c = rw c.from_residual.ensures (adding_short c.loop-b.invariant (_ ∷ []) _ (drop_more _ _ c.loop-b-test.true) c.in_err-k.ensures)

pub loop-b-preserved : goal.loop-b-preserved
loop-b-preserved c = adding_next c.loop-b.invariant (_ ∷ []) _ (drop_more _ _ c.loop-b-test.true) c.in_ok-k.ensures
