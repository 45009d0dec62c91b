-- What moving the records behind a place leaves: `inserted` and `removed`.
-- Assumes nothing.
use mathlib.Core.Path.{◌≡◌, ◌∙◌}
use mathlib.Core.List.{List, [], ◌∷◌}
use Prim.Native.Nat.{ℕ, zero, suc, ◌+◌, ◌-◌, ◌≤◌, ◌<◌, max}
use native.Mathlib.Omega.{arith}
use lib.ListN.{length, drop, set}
use lib.Seq.{paste}
use Rattle.packed.specs.Splicing.{live_after, spliced}
use Rattle.packed.proofs.Splices.{spliced_in, spliced_out}
use Rattle.records.specs.Records.{inserted, removed}

module _ {A : Type 0} (z : A) (l : List A) (n at : ℕ) where
  spliced_inserted : (v : A) → at ≤ n → spliced z l at 0 (v ∷ []) n ≡ inserted l n at v
  unfolding spliced inserted
  spliced_inserted v h =
      let a : at + 0 ≡ at = omega arith in
      let b : n - live_after 0 (v ∷ []) n ≡ 0 = omega arith in
      let c : max n (live_after 0 (v ∷ []) n) ≡ suc n = omega arith in
      rw (a, b, c)

  spliced_removed : at < n → spliced z l at 1 [] n ≡ removed l n at z
  unfolding spliced removed
  spliced_removed h =
      let a : at + 1 ≡ suc at = omega arith in
      let b : n - live_after {A = A} 1 [] n ≡ suc zero = omega arith in
      let c : max n (live_after {A = A} 1 [] n) ≡ n = omega arith in
      rw (a, b, c)

  pub put_in : (x : List A) (v : A) → at ≤ n → n < length l → x ≡ paste l (at + 1) (drop at l) (n - at) → set x at v ≡ inserted l n at v
  put_in x v h k e = spliced_in z v l x at n h k e ∙ spliced_inserted v h

  pub taken_out : (x : List A) → at < n → n ≤ length l → x ≡ paste l at (drop (at + 1) l) (n - (at + 1)) → set x (n - 1) z ≡ removed l n at z
  taken_out x h k e = spliced_out z l x at n h k e ∙ spliced_removed h
