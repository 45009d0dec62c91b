-- `definition::bars_of` meets its contract. It branches as its definition does.
-- Assumes nothing.
use Rattle.definition.specs.Extents.{bars_of}
use borrow.Author.Tests.{le-leb, lt-leb, lt-ltb, le-ltb}
use Rattle.definition.proofs.bars_of.Goals as goal

pub returns-then-text-mark : goal.returns-then-text-mark
unfolding bars_of
returns-then-text-mark c = simp (le-leb _ _ c.if-text-mark.true)

pub returns-then-bars-mark : goal.returns-then-bars-mark
unfolding bars_of
returns-then-bars-mark c = simp (lt-leb _ _ c.if-text-mark.false, lt-ltb _ _ c.if-bars-mark.true) c.worse.ensures

pub returns : goal.returns
unfolding bars_of
returns c = simp (lt-leb _ _ c.if-text-mark.false, le-ltb _ _ c.if-bars-mark.false) c.worse-2.ensures
