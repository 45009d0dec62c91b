-- `storing::put_piece` meets its contract.
-- Assumes nothing.
use borrow.Author.Tests.{eq-eqb, ne_eqb}
use Rattle.storing.specs.Stored.{piece}
use Rattle.storing.proofs.Adding.{added_none}
use Rattle.storing.proofs.put_piece.Goals as goal

pub returns-then-t : goal.returns-then-t
unfolding piece
returns-then-t c = simp c.if-t.true c.put_byte.ensures

pub returns-then-marks : goal.returns-then-marks
unfolding piece
returns-then-marks c = simp (c.if-t.false, eq-eqb _ _ c.if-t-eq-CONTINUATION.true, c.if-marks.true) (added_none _ _ _ c.requires.1)

pub returns-then-t-eq-CONTINUATION : goal.returns-then-t-eq-CONTINUATION
unfolding piece
returns-then-t-eq-CONTINUATION c = simp (c.if-t.false, eq-eqb _ _ c.if-t-eq-CONTINUATION.true, c.if-marks.false) c.put_byte-then-t-eq-CONTINUATION.ensures

pub returns-then-t-eq-STRING : goal.returns-then-t-eq-STRING
unfolding piece
returns-then-t-eq-STRING c = simp (c.if-t.false, ne_eqb _ _ c.if-t-eq-CONTINUATION.false, eq-eqb _ _ c.if-t-eq-STRING.true) c.put_joined.ensures

pub returns : goal.returns
unfolding piece
returns c = simp (c.if-t.false, ne_eqb _ _ c.if-t-eq-CONTINUATION.false, ne_eqb _ _ c.if-t-eq-STRING.false) c.put_bytes.ensures
