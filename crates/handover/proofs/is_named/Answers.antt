-- `handover::is_named` meets its contract.
-- Assumes nothing.
use Rattle.handover.proofs.Walking.{other_form, same_form}
use Rattle.handover.proofs.is_named.Goals as goal

pub returns-then-v-form : goal.returns-then-v-form
returns-then-v-form c = let a = c.args in other_form a.s.now a.form a.w.now a.v c.if-v-form.true

pub returns : goal.returns
returns c = let a = c.args in same_form a.s.now a.form a.w.now a.v c.if-v-form.false c.name_in.ensures c.same.ensures
