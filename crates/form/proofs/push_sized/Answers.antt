-- `form::push_sized` meets its contract. The length is put, and the bytes behind it.
-- Assumes nothing.
use mathlib.Core.Path.{refl}
use native.Mathlib.Omega.{arith}
use Rattle.form.proofs.Pushing.{put_past, by_then, put_not}
use Rattle.form.proofs.push_sized.Goals as goal

pub returns-in_err-m : goal.returns-in_err-m
returns-in_err-m c = rw c.from_residual.ensures (put_not _ _ _ _ _ c.push_two.ensures c.in_err-m.was (λ x. x) c.args.w.now refl)

pub push_bytes-requires : goal.push_bytes-requires
push_bytes-requires c = put_past c.in_ok-m.ensures (omega arith)

pub returns : goal.returns
returns c = by_then c.in_ok-m.ensures (omega arith) (λ x. x) _ _ refl c.push_bytes.result c.push_bytes.ensures
