-- `directive::magnitude_of` meets its contract. The definition branches as the code does.
-- Assumes nothing.
use borrow.Author.Tests.{ne_eqb, eq-eqb}
use Rattle.text.specs.Bytes.{bytes}
use Rattle.directive.specs.Forms.{magnitude}
use Rattle.directive.proofs.magnitude_of.Goals as goal

pub returns-then-t-ne-NUMBER : goal.returns-then-t-ne-NUMBER
unfolding magnitude bytes
returns-then-t-ne-NUMBER c = simp (ne_eqb _ _ c.if-t-ne-NUMBER.true)

pub returns-then-begins_at : goal.returns-then-begins_at
unfolding magnitude bytes
returns-then-begins_at c = simp (eq-eqb _ _ c.if-t-ne-NUMBER.false, ← c.begins_at.ensures, c.if-begins_at.true) c.unit_after.ensures

pub returns-then-begins_at-2 : goal.returns-then-begins_at-2
unfolding magnitude bytes
returns-then-begins_at-2 c = simp (eq-eqb _ _ c.if-t-ne-NUMBER.false, ← c.begins_at.ensures, c.if-begins_at.false, ← c.begins_at-2.ensures, c.if-begins_at-2.true) c.unit_after-then-begins_at-2.ensures

pub returns-then-begins_at-3 : goal.returns-then-begins_at-3
unfolding magnitude bytes
returns-then-begins_at-3 c = simp (eq-eqb _ _ c.if-t-ne-NUMBER.false, ← c.begins_at.ensures, c.if-begins_at.false, ← c.begins_at-2.ensures, c.if-begins_at-2.false, ← c.begins_at-3.ensures, c.if-begins_at-3.true) c.unit_after-then-begins_at-3.ensures

pub returns : goal.returns
unfolding magnitude bytes
returns c = simp (eq-eqb _ _ c.if-t-ne-NUMBER.false, ← c.begins_at.ensures, c.if-begins_at.false, ← c.begins_at-2.ensures, c.if-begins_at-2.false, ← c.begins_at-3.ensures, c.if-begins_at-3.false)
