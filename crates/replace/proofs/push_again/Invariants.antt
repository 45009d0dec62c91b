-- `replace::push_again` meets its contract. The invariant: the references from `from` to before `i` are added once more.
-- Assumes nothing.
use Rattle.replace.proofs.Again.{Again}
use Rattle.replace.proofs.push_again.Given as goal

abbrev pub invariant-loop-i : goal.invariant-loop-i
invariant-loop-i l = Again l.initial.out l.out l.most l.at l.from l.to l.i l.k
