-- `directive::read_at` meets its contract. The definition branches as the code does.
-- Assumes nothing.
use Rattle.directive.specs.Forms.{read_at}
use borrow.Author.Tests.{eq-eqb, ne_eqb}
use Rattle.directive.proofs.read_at.Goals as goal

pub returns-then-d-eq-UNDEF : goal.returns-then-d-eq-UNDEF
unfolding read_at
returns-then-d-eq-UNDEF c = simp (eq-eqb _ _ c.if-d-eq-UNDEF.true) c.undef_form.ensures

pub returns-then-stands_alone : goal.returns-then-stands_alone
unfolding read_at
returns-then-stands_alone c = simp (ne_eqb _ _ c.if-d-eq-UNDEF.false, ← c.stands_alone.ensures, c.if-stands_alone.true)

pub returns-then-d-eq-INCLUDE : goal.returns-then-d-eq-INCLUDE
unfolding read_at
returns-then-d-eq-INCLUDE c = simp (ne_eqb _ _ c.if-d-eq-UNDEF.false, ← c.stands_alone.ensures, c.if-stands_alone.false, eq-eqb _ _ c.if-d-eq-INCLUDE.true) c.include_form.ensures

pub returns-then-d-eq-TIMESCALE : goal.returns-then-d-eq-TIMESCALE
unfolding read_at
returns-then-d-eq-TIMESCALE c = simp (ne_eqb _ _ c.if-d-eq-UNDEF.false, ← c.stands_alone.ensures, c.if-stands_alone.false, ne_eqb _ _ c.if-d-eq-INCLUDE.false, eq-eqb _ _ c.if-d-eq-TIMESCALE.true) c.timescale_form.ensures

pub returns-then-takes_entry : goal.returns-then-takes_entry
unfolding read_at
returns-then-takes_entry c = simp (ne_eqb _ _ c.if-d-eq-UNDEF.false, ← c.stands_alone.ensures, c.if-stands_alone.false, ne_eqb _ _ c.if-d-eq-INCLUDE.false, ne_eqb _ _ c.if-d-eq-TIMESCALE.false, ← c.takes_entry.ensures, c.if-takes_entry.true) c.entry_form.ensures

pub returns : goal.returns
unfolding read_at
returns c = simp (ne_eqb _ _ c.if-d-eq-UNDEF.false, ← c.stands_alone.ensures, c.if-stands_alone.false, ne_eqb _ _ c.if-d-eq-INCLUDE.false, ne_eqb _ _ c.if-d-eq-TIMESCALE.false, ← c.takes_entry.ensures, c.if-takes_entry.false)
