-- The loop of `word_lists::Words::gather`: the room left is at most all room. Assumes nothing.
use Rattle.std.proofs.Common.{◌≤◌}
use Rattle.word_lists.proofs.Words.gather.Given as goal

abbrev pub invariant-loop-i : goal.invariant-loop-i
invariant-loop-i g l = l.room ≤ 131072
