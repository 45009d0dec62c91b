-- `directive::value_of` meets its contract. The definition branches as the code does.
-- Assumes nothing.
use Rattle.directive.specs.Forms.{value_of}
use borrow.Author.Tests.{eq-eqb, ne_eqb}
use Rattle.directive.proofs.value_of.Goals as goal

pub returns-then-d-eq-RESETALL : goal.returns-then-d-eq-RESETALL
unfolding value_of
returns-then-d-eq-RESETALL c = simp (eq-eqb _ _ c.if-d-eq-RESETALL.true)

pub returns-then-d-eq-CELLDEFINE : goal.returns-then-d-eq-CELLDEFINE
unfolding value_of
returns-then-d-eq-CELLDEFINE c = simp (ne_eqb _ _ c.if-d-eq-RESETALL.false, eq-eqb _ _ c.if-d-eq-CELLDEFINE.true)

pub returns-then-d-eq-END_CELLDEFINE : goal.returns-then-d-eq-END_CELLDEFINE
unfolding value_of
returns-then-d-eq-END_CELLDEFINE c = simp (ne_eqb _ _ c.if-d-eq-RESETALL.false, ne_eqb _ _ c.if-d-eq-CELLDEFINE.false, eq-eqb _ _ c.if-d-eq-END_CELLDEFINE.true)

pub returns-then-d-eq-NO_UNCONNECTED_DRIVE : goal.returns-then-d-eq-NO_UNCONNECTED_DRIVE
unfolding value_of
returns-then-d-eq-NO_UNCONNECTED_DRIVE c = simp (ne_eqb _ _ c.if-d-eq-RESETALL.false, ne_eqb _ _ c.if-d-eq-CELLDEFINE.false, ne_eqb _ _ c.if-d-eq-END_CELLDEFINE.false, eq-eqb _ _ c.if-d-eq-NO_UNCONNECTED_DRIVE.true)

pub returns-then-d-eq-END_KEYWORDS : goal.returns-then-d-eq-END_KEYWORDS
unfolding value_of
returns-then-d-eq-END_KEYWORDS c = simp (ne_eqb _ _ c.if-d-eq-RESETALL.false, ne_eqb _ _ c.if-d-eq-CELLDEFINE.false, ne_eqb _ _ c.if-d-eq-END_CELLDEFINE.false, ne_eqb _ _ c.if-d-eq-NO_UNCONNECTED_DRIVE.false, eq-eqb _ _ c.if-d-eq-END_KEYWORDS.true)

pub returns-then-d-eq-TIMESCALE : goal.returns-then-d-eq-TIMESCALE
unfolding value_of
returns-then-d-eq-TIMESCALE c = simp (ne_eqb _ _ c.if-d-eq-RESETALL.false, ne_eqb _ _ c.if-d-eq-CELLDEFINE.false, ne_eqb _ _ c.if-d-eq-END_CELLDEFINE.false, ne_eqb _ _ c.if-d-eq-NO_UNCONNECTED_DRIVE.false, ne_eqb _ _ c.if-d-eq-END_KEYWORDS.false, eq-eqb _ _ c.if-d-eq-TIMESCALE.true)

pub returns-then-d-eq-DEFAULT_NETTYPE : goal.returns-then-d-eq-DEFAULT_NETTYPE
unfolding value_of
returns-then-d-eq-DEFAULT_NETTYPE c = simp (ne_eqb _ _ c.if-d-eq-RESETALL.false, ne_eqb _ _ c.if-d-eq-CELLDEFINE.false, ne_eqb _ _ c.if-d-eq-END_CELLDEFINE.false, ne_eqb _ _ c.if-d-eq-NO_UNCONNECTED_DRIVE.false, ne_eqb _ _ c.if-d-eq-END_KEYWORDS.false, ne_eqb _ _ c.if-d-eq-TIMESCALE.false, eq-eqb _ _ c.if-d-eq-DEFAULT_NETTYPE.true)

pub returns-then-d-eq-UNCONNECTED_DRIVE : goal.returns-then-d-eq-UNCONNECTED_DRIVE
unfolding value_of
returns-then-d-eq-UNCONNECTED_DRIVE c = simp (ne_eqb _ _ c.if-d-eq-RESETALL.false, ne_eqb _ _ c.if-d-eq-CELLDEFINE.false, ne_eqb _ _ c.if-d-eq-END_CELLDEFINE.false, ne_eqb _ _ c.if-d-eq-NO_UNCONNECTED_DRIVE.false, ne_eqb _ _ c.if-d-eq-END_KEYWORDS.false, ne_eqb _ _ c.if-d-eq-TIMESCALE.false, ne_eqb _ _ c.if-d-eq-DEFAULT_NETTYPE.false, eq-eqb _ _ c.if-d-eq-UNCONNECTED_DRIVE.true)

pub returns-then-d-eq-BEGIN_KEYWORDS : goal.returns-then-d-eq-BEGIN_KEYWORDS
unfolding value_of
returns-then-d-eq-BEGIN_KEYWORDS c = simp (ne_eqb _ _ c.if-d-eq-RESETALL.false, ne_eqb _ _ c.if-d-eq-CELLDEFINE.false, ne_eqb _ _ c.if-d-eq-END_CELLDEFINE.false, ne_eqb _ _ c.if-d-eq-NO_UNCONNECTED_DRIVE.false, ne_eqb _ _ c.if-d-eq-END_KEYWORDS.false, ne_eqb _ _ c.if-d-eq-TIMESCALE.false, ne_eqb _ _ c.if-d-eq-DEFAULT_NETTYPE.false, ne_eqb _ _ c.if-d-eq-UNCONNECTED_DRIVE.false, eq-eqb _ _ c.if-d-eq-BEGIN_KEYWORDS.true)

pub returns : goal.returns
unfolding value_of
returns c = simp (ne_eqb _ _ c.if-d-eq-RESETALL.false, ne_eqb _ _ c.if-d-eq-CELLDEFINE.false, ne_eqb _ _ c.if-d-eq-END_CELLDEFINE.false, ne_eqb _ _ c.if-d-eq-NO_UNCONNECTED_DRIVE.false, ne_eqb _ _ c.if-d-eq-END_KEYWORDS.false, ne_eqb _ _ c.if-d-eq-TIMESCALE.false, ne_eqb _ _ c.if-d-eq-DEFAULT_NETTYPE.false, ne_eqb _ _ c.if-d-eq-UNCONNECTED_DRIVE.false, ne_eqb _ _ c.if-d-eq-BEGIN_KEYWORDS.false)
