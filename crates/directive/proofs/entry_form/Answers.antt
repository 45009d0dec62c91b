-- `directive::entry_form` meets its contract. The definition branches as the code does.
-- Assumes nothing.
use Rattle.directive.specs.Forms.{entry_form}
use borrow.Author.Tests.{ne_eqb, eq-eqb}
use Rattle.directive.proofs.entry_form.Goals as goal

pub returns-then-t-entry_kind : goal.returns-then-t-entry_kind
unfolding entry_form
returns-then-t-entry_kind c = simp (← c.word_at-w.ensures, c.in-Found.is, ← c.entry_kind.ensures, ne_eqb _ _ c.if-t-entry_kind.true)

pub returns-then-n-eq-UNKNOWN : goal.returns-then-n-eq-UNKNOWN
unfolding entry_form
returns-then-n-eq-UNKNOWN c = simp (← c.word_at-w.ensures, c.in-Found.is, ← c.entry_kind.ensures, eq-eqb _ _ c.if-t-entry_kind.false, ← c.part_of.ensures, ← c.entry_in-n.ensures, eq-eqb _ _ c.if-n-eq-UNKNOWN.true)

pub returns-else-n-eq-UNKNOWN : goal.returns-else-n-eq-UNKNOWN
unfolding entry_form
returns-else-n-eq-UNKNOWN c = simp (← c.word_at-w.ensures, c.in-Found.is, ← c.entry_kind.ensures, eq-eqb _ _ c.if-t-entry_kind.false, ← c.part_of.ensures, ← c.entry_in-n.ensures, ne_eqb _ _ c.if-n-eq-UNKNOWN.false)

pub returns-in-Missing : goal.returns-in-Missing
unfolding entry_form
returns-in-Missing c = simp (← c.word_at-w.ensures, c.in-Missing.is)

pub returns-in-Barred : goal.returns-in-Barred
unfolding entry_form
returns-in-Barred c = simp (← c.word_at-w.ensures, c.in-Barred.is)
