-- `sets::with_bit` meets its contract: a bit that is not set fits.
-- Assumes nothing.
use mathlib.Core.Path.{◌≡◌, sym, ◌∙◌}
use mathlib.Core.Logic.{⊎_elim}
use Prim.Native.Nat.{◌<◌, ◌^◌, ◌%◌, ◌/◌}
use native.Mathlib.Omega.{arith}
use lib.Pow.{pow-lt}
use borrow.Author.Tests.{eqb-false}
use Rattle.sets.specs.Sets.{put}
use Rattle.sets.proofs.Bits.{odd_or_even, bit_fits}
use Rattle.sets.proofs.with_bit.Goals as goal

-- the bit that the test found unset
unset : (c : goal.Else-bit) → c.args.w / 2 ^ c.args.k % 2 ≡ 0
unset c = let a = c.args in
    ⊎_elim (λ z. z) (λ z. absurd (eqb-false (a.w / 2 ^ a.k % 2) 1 (sym c.bit.ensures ∙ c.if-bit.false) z)) (odd_or_even (a.w / 2 ^ a.k))

pub returns-then-bit : goal.returns-then-bit
unfolding put
returns-then-bit c = rw (sym c.bit.ensures ∙ c.if-bit.true)

pub overflow_add-result : goal.overflow_add-result
overflow_add-result c = let a = c.args in
    let z : a.w / 2 ^ a.k % 2 ≡ 0 = unset c in
    let p : 2 ^ a.k < 2 ^ 64 = pow-lt {j = 64} (omega arith) in
    omega (arith, bit_fits 64 a.w a.k (omega arith) (omega arith) z)

pub returns : goal.returns
unfolding put
returns c = let a = c.args in let p : 2 ^ a.k < 2 ^ 64 = pow-lt {j = 64} (omega arith) in rw (sym c.bit.ensures ∙ c.if-bit.false) (omega arith)
