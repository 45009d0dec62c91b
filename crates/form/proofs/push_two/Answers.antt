-- `form::push_two` meets its contract. The two bytes are put one behind the other.
-- Assumes nothing.
use mathlib.Core.List.{[], ◌∷◌}
use Prim.Native.Nat.{◌/◌, ◌%◌}
use mathlib.Core.Path.{refl}
use native.Mathlib.Omega.{arith}
use Rattle.form.proofs.Pushing.{put_past, by_then, put_not}
use Rattle.form.proofs.push_two.Goals as goal

pub returns-in_err-m : goal.returns-in_err-m
returns-in_err-m c = rw c.from_residual.ensures (put_not _ _ _ _ _ c.push_byte.ensures c.in_err-m.was (λ x. x) (c.args.size / 256 % 256 ∷ []) refl)

pub push_byte-requires-2 : goal.push_byte-requires-2
push_byte-requires-2 c = put_past c.in_ok-m.ensures (omega arith)

pub returns : goal.returns
returns c = by_then c.in_ok-m.ensures (omega arith) (λ x. x) _ _ refl c.push_byte-2.result c.push_byte-2.ensures
