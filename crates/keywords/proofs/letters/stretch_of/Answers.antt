-- `keywords::letters::stretch_of` meets its contract. The two constant tables compute to those of the readable list.
-- Assumes nothing.
use native.Mathlib.Omega.{arith}
use Rattle.text.specs.Bytes.{bytes}
use Rattle.keywords.specs.Keywords.{keywords}
use Rattle.keywords.specs.Letters.{longest_of}
use Rattle.keywords.proofs.Stretches.{count_below, letters, letter_starts, letter_longest, each_letter, small_letter, no_letter}
use Rattle.keywords.proofs.letters.stretch_of.Goals as goal

pub returns-then-b : goal.returns-then-b
returns-then-b c = no_letter c.args.b c.if-b.true

pub overflow_sub-letter : goal.overflow_sub-letter
overflow_sub-letter c = (small_letter c.args.b c.if-b.false).0

pub bounds-starts-letter : goal.bounds-starts-letter
bounds-starts-letter c = let l = small_letter c.args.b c.if-b.false in omega arith

pub bounds-starts-letter-2 : goal.bounds-starts-letter-2
bounds-starts-letter-2 c = let l = small_letter c.args.b c.if-b.false in omega arith

pub bounds-longest-letter : goal.bounds-longest-letter
bounds-longest-letter c = let l = small_letter c.args.b c.if-b.false in omega arith

pub returns : goal.returns
unfolding letter_starts letter_longest letters count_below longest_of keywords bytes
returns c = let l = small_letter c.args.b c.if-b.false in each_letter c.args.b l.0 l.1
