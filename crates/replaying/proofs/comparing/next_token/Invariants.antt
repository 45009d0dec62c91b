use Rattle.std.proofs.Common.{◌-◌, length}
use Rattle.replaying.proofs.comparing.next_token.Given as goal

abbrev pub decreases-loop-i : goal.decreases-loop-i
decreases-loop-i l = length l.s - l.i
