-- `judging::read_piece` meets its contract.
-- Assumes nothing.
use borrow.Author.Tests.{eq-eqb, ne_eqb}
use Rattle.storing.specs.Stored.{piece}
use Rattle.afresh.specs.States.{reading}
use Rattle.judging.proofs.Feeding.{read_none}
use Rattle.judging.proofs.read_piece.Goals as goal

pub returns-then-t : goal.returns-then-t
unfolding piece reading
returns-then-t c = simp c.if-t.true c.read_byte.ensures

pub returns-then-marks : goal.returns-then-marks
unfolding piece reading
returns-then-marks c = simp (c.if-t.false, eq-eqb _ _ c.if-t-eq-CONTINUATION.true, c.if-marks.true) (read_none _ _ _ c.requires)

pub returns-then-t-eq-CONTINUATION : goal.returns-then-t-eq-CONTINUATION
unfolding piece reading
returns-then-t-eq-CONTINUATION c = simp (c.if-t.false, eq-eqb _ _ c.if-t-eq-CONTINUATION.true, c.if-marks.false) c.read_byte-then-t-eq-CONTINUATION.ensures

pub returns-then-t-eq-STRING : goal.returns-then-t-eq-STRING
unfolding piece
returns-then-t-eq-STRING c = simp (c.if-t.false, ne_eqb _ _ c.if-t-eq-CONTINUATION.false, eq-eqb _ _ c.if-t-eq-STRING.true) (rw c.part_of-w.ensures at c.read_joined.ensures)

pub returns : goal.returns
unfolding piece
returns c = simp (c.if-t.false, ne_eqb _ _ c.if-t-eq-CONTINUATION.false, ne_eqb _ _ c.if-t-eq-STRING.false) (rw c.part_of-w.ensures at c.read_bytes.ensures)
