-- `directive::include_form` meets its contract. The definition branches as the code does.
-- Assumes nothing.
use borrow.Author.Tests.{ne_eqb, eq-eqb}
use Rattle.directive.specs.Forms.{include_form}
use Rattle.directive.proofs.include_form.Goals as goal

pub returns-then-bars-ne0 : goal.returns-then-bars-ne0
unfolding include_form
returns-then-bars-ne0 c = simp (← c.include_at-l.ensures, ne_eqb _ _ c.if-bars-ne0.true)

pub returns-in-Unnamed : goal.returns-in-Unnamed
unfolding include_form
returns-in-Unnamed c = simp (← c.include_at-l.ensures, eq-eqb _ _ c.if-bars-ne0.false, c.in-Unnamed.is)

pub returns-in-Quoted : goal.returns-in-Quoted
unfolding include_form
returns-in-Quoted c = simp (← c.include_at-l.ensures, eq-eqb _ _ c.if-bars-ne0.false, c.in-Quoted.is)

pub returns-in-Angled : goal.returns-in-Angled
unfolding include_form
returns-in-Angled c = simp (← c.include_at-l.ensures, eq-eqb _ _ c.if-bars-ne0.false, c.in-Angled.is)
