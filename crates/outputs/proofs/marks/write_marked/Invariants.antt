-- The measure of `outputs::marks::write_marked`: the bytes not written. Assumes nothing.
use Rattle.std.proofs.Common.{◌-◌, length}
use Rattle.outputs.proofs.marks.write_marked.Given as goal

abbrev pub decreases-loop-at : goal.decreases-loop-at
decreases-loop-at g l = length l.flat - l.at
