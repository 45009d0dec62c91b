-- `afresh::end_verdict` meets its contract. The brackets due are as many as it counts.
-- Assumes nothing.
use Rattle.afresh.specs.States.{ended}
use Rattle.afresh.proofs.Verdicts.{stack_open}
use Rattle.afresh.proofs.end_verdict.Goals as goal

pub returns : goal.returns
unfolding ended
returns c w = rw (stack_open w c.args.r.depth, ← c.leaves_bad.ensures w)
