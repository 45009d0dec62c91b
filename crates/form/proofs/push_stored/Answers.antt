-- `form::push_stored` meets its contract. The mark is put, and the default behind it.
-- Assumes nothing.
use mathlib.Core.Path.{refl}
use native.Mathlib.Omega.{arith}
use Rattle.text.specs.Bytes.{part}
use Rattle.form.specs.Forms.{sized}
use Rattle.form.proofs.Pushing.{put_past, by_then, put_not}
use Rattle.form.proofs.push_stored.Goals as goal

pub returns-in_err-m : goal.returns-in_err-m
returns-in_err-m c = let a = c.args in rw c.from_residual.ensures (put_not _ _ _ _ _ c.push_byte.ensures c.in_err-m.was (λ x. x) (sized (part a.work.now 0 a.k)) refl)

pub push_sized-requires : goal.push_sized-requires
push_sized-requires c = put_past c.in_ok-m.ensures (omega arith)

pub returns : goal.returns
returns c = by_then c.in_ok-m.ensures (omega arith) (λ x. x) _ _ refl c.push_sized.result (rw c.part_of.ensures at c.push_sized.ensures)
