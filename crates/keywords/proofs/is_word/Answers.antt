-- `keywords::is_word` meets its contract. Word k lies between start k and the next.
-- Assumes nothing.
use native.Mathlib.Omega.{arith}
use Rattle.keywords.proofs.Places.{lies, starts_number}
use Rattle.keywords.proofs.is_word.Goals as goal

pub bounds-starts-k : goal.bounds-starts-k
bounds-starts-k c = omega (arith, starts_number c.requires.1)

pub bounds-starts-k-2 : goal.bounds-starts-k-2
bounds-starts-k-2 c = omega (arith, starts_number c.requires.1)

pub slice_bounds-same-count : goal.slice_bounds-same-count
slice_bounds-same-count c = let l = lies c.requires in omega arith

pub slice_bounds-same-start : goal.slice_bounds-same-start
slice_bounds-same-start c = let l = lies c.requires in omega arith

pub slice_bounds-same-end : goal.slice_bounds-same-end
slice_bounds-same-end c = let l = lies c.requires in omega arith

pub returns : goal.returns
returns c = rw (lies c.requires).its_part at c.same.ensures
