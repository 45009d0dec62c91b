use Rattle.std.proofs.Common.{◌-◌, length}
use Rattle.noting.proofs.walk_file.Given as goal

abbrev pub decreases-loop-z : goal.decreases-loop-z
decreases-loop-z l = length l.body - l.z.at
