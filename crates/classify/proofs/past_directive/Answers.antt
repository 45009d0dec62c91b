-- `classify::past_directive` meets its contract. The definition branches as the code does.
-- Assumes nothing.
use borrow.Author.Tests.{eq-eqb, ne_eqb}
use Rattle.classify.specs.Words.{past_directive}
use Rattle.classify.proofs.past_directive.Goals as goal

pub returns-then-d-eq-DEFINE : goal.returns-then-d-eq-DEFINE
unfolding past_directive
returns-then-d-eq-DEFINE c = rw (eq-eqb _ _ c.if-d-eq-DEFINE.true) c.past_definition.ensures

pub returns-then-takes_condition : goal.returns-then-takes_condition
unfolding past_directive
returns-then-takes_condition c = rw (ne_eqb _ _ c.if-d-eq-DEFINE.false, ← c.takes_condition.ensures, c.if-takes_condition.true, ← c.condition_form.ensures) c.past_condition.ensures

pub returns : goal.returns
unfolding past_directive
returns c = rw (ne_eqb _ _ c.if-d-eq-DEFINE.false, ← c.takes_condition.ensures, c.if-takes_condition.false, ← c.form_at.ensures) c.past_form.ensures
