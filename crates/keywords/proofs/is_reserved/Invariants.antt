-- `keywords::is_reserved` meets its contract. No word of the table before k is the word.
-- Assumes nothing.
use Rattle.keywords.proofs.Searching.{Passed}
use Rattle.keywords.proofs.is_reserved.Given as goal

abbrev pub invariant-loop-k : goal.invariant-loop-k
invariant-loop-k l = Passed l.word l.k
