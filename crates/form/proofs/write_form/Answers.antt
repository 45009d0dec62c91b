-- `form::write_form` meets its contract. A good definition has a whole head, at most 16 formals, and the macro that its parts make.
-- Assumes nothing.
use native.Mathlib.Omega.{arith}
use Rattle.std.proofs.lemmas.Result.{err_from_is_err_and}
use Rattle.definition.specs.Definitions.{shape_by}
use Rattle.definition.proofs.Defining.{told_shape}
use Rattle.form.proofs.Formed.{form_as}
use Rattle.form.proofs.Told.{good_few, good_macro, good_unread}
use Rattle.form.proofs.write_form.Goals as goal

pub returns-in_err-count : goal.returns-in_err-count
returns-in_err-count c m e p =
    let r = err_from_is_err_and c.from_residual.result c.from_residual.ensures.1 in
    rw (r.1, r.2) (good_unread c.args.s.now c.args.at c.extent_at-w.ensures c.head_at-h.ensures p _ _ (omega (arith, c.well_formed.0.1)) c.in_err-count.ensures)

pub returns-then-count-gt16 : goal.returns-then-count-gt16
returns-then-count-gt16 c m e p =
    let a = c.args in
    let k = told_shape (shape_by a.s.now c.head_at-h.result) c.in_ok-count.ensures in
    good_few a.s.now a.at c.extent_at-w.ensures c.head_at-h.ensures p k.shape (omega (arith, k.count, c.if-count-gt16.true))

pub write_macro-requires : goal.write_macro-requires
write_macro-requires c =
    let k = told_shape (shape_by c.args.s.now c.head_at-h.result) c.in_ok-count.ensures in
    (c.if-count-gt16.false, record { formals = k.formals; shape = k.shape; number = k.count })

pub returns : goal.returns
returns c m e p =
    let a = c.args in
    let k = told_shape (shape_by a.s.now c.head_at-h.result) c.in_ok-count.ensures in
    form_as c.ok_or.result _ _ _ _ _ c.shape_of.auto.stack (good_macro a.s.now a.at c.extent_at-w.ensures c.head_at-h.ensures p k.shape) (rw c.ok_or.ensures.value (c.write_macro.ensures k.formals k.shape k.count))
