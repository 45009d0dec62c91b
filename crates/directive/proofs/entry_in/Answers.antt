-- `directive::entry_in` meets its contract. The definition branches as the code does.
-- Assumes nothing.
use borrow.Author.Tests.{eq-eqb, ne_eqb}
use Rattle.directive.proofs.entry_in.Goals as goal

pub returns-then-d-eq-DEFAULT_NETTYPE : goal.returns-then-d-eq-DEFAULT_NETTYPE
returns-then-d-eq-DEFAULT_NETTYPE c = simp (eq-eqb _ _ c.if-d-eq-DEFAULT_NETTYPE.true) c.nettype_of.ensures

pub returns-then-d-eq-UNCONNECTED_DRIVE : goal.returns-then-d-eq-UNCONNECTED_DRIVE
returns-then-d-eq-UNCONNECTED_DRIVE c = simp (ne_eqb _ _ c.if-d-eq-DEFAULT_NETTYPE.false, eq-eqb _ _ c.if-d-eq-UNCONNECTED_DRIVE.true) c.drive_of.ensures

pub returns : goal.returns
returns c = simp (ne_eqb _ _ c.if-d-eq-DEFAULT_NETTYPE.false, ne_eqb _ _ c.if-d-eq-UNCONNECTED_DRIVE.false) c.version_of.ensures
