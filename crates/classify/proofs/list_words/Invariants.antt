-- `classify::list_words` meets its contract. The invariant: the words written so far, with those from `i` on behind them, are the words of the text; one law for each arm of the loop.
-- Assumes nothing.
use mathlib.Core.Path.{◌≡◌}
use Prim.Native.Nat.{◌-◌}
use lib.ListN.{length}
use Rattle.classify.proofs.Writing.{Written}
use Rattle.classify.proofs.list_words.Given as goal

abbrev pub invariant-loop-i : goal.invariant-loop-i
invariant-loop-i l = Written l.start l.s l.initial.words l.words l.set l.i l.n × (length l.name ≡ length l.initial.name) × (length l.stack ≡ length l.initial.stack)

abbrev pub decreases-loop-i : goal.decreases-loop-i
decreases-loop-i l = length l.s - l.i
