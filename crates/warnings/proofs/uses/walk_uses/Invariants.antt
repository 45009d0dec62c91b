use Rattle.std.proofs.Common.{◌-◌, length}
use Rattle.warnings.proofs.uses.walk_uses.Given as goal

abbrev pub decreases-loop-at : goal.decreases-loop-at
decreases-loop-at l = length l.body - l.at
