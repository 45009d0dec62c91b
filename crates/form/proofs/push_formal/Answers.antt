-- `form::push_formal` meets its contract. The name is put, and the default behind it.
-- Assumes nothing.
use mathlib.Core.Path.{refl}
use native.Mathlib.Omega.{arith}
use Rattle.form.specs.Forms.{default_by, default_form}
use Rattle.form.proofs.Pushing.{put_past, by_then, put_not}
use Rattle.form.proofs.push_formal.Goals as goal

pub returns-in_err-m : goal.returns-in_err-m
returns-in_err-m c = let a = c.args in rw c.from_residual.ensures (put_not _ _ _ _ _ (rw c.part_of.ensures at c.push_sized.ensures) c.in_err-m.was (λ x. absurd x) (default_form (default_by a.s.now a.f)) refl)

pub push_default-requires : goal.push_default-requires
push_default-requires c = put_past c.in_ok-m.ensures (omega arith)

pub returns : goal.returns
returns c = by_then (rw c.part_of.ensures at c.in_ok-m.ensures) (omega arith) (λ x. x) _ _ refl c.push_default.result c.push_default.ensures
