-- `sets::insert` meets its contract: the bit is set in the word that it lies in.
-- Assumes nothing.
use mathlib.Core.Path.{ap, ◌∙◌}
use Prim.Native.Nat.{ℕ, ◌^◌, ◌+◌, ◌*◌}
use native.Mathlib.Omega.{arith}
use Rattle.sets.specs.Sets.{members, value, bits_of}
use Rattle.sets.proofs.Words.{above_first, above_second, insert_0, insert_1, insert_2, insert_3}
use Rattle.sets.proofs.insert.Goals as goal

pub returns-then-i-lt64 : goal.returns-then-i-lt64
unfolding members value
returns-then-i-lt64 c = let s = c.args.s in ap (λ (w : ℕ). bits_of 256 (w + 2 ^ 64 * above_first s) 0) c.with_bit.ensures ∙ insert_0 s c.args.i (omega arith)

pub returns-then-i-lt128 : goal.returns-then-i-lt128
unfolding members value
returns-then-i-lt128 c = let s = c.args.s in ap (λ (w : ℕ). bits_of 256 (s.w0 + 2 ^ 64 * (w + 2 ^ 64 * above_second s)) 0) c.with_bit-then-i-lt128.ensures ∙ insert_1 s c.args.i (omega arith) (omega arith) (omega arith)

pub returns-then-i-lt192 : goal.returns-then-i-lt192
unfolding members value
returns-then-i-lt192 c = let s = c.args.s in ap (λ (w : ℕ). bits_of 256 (s.w0 + 2 ^ 64 * (s.w1 + 2 ^ 64 * (w + 2 ^ 64 * s.w3))) 0) c.with_bit-then-i-lt192.ensures ∙ insert_2 s c.args.i (omega arith) (omega arith) (omega arith) (omega arith)

pub returns : goal.returns
unfolding members value
returns c = let s = c.args.s in ap (λ (w : ℕ). bits_of 256 (s.w0 + 2 ^ 64 * (s.w1 + 2 ^ 64 * (s.w2 + 2 ^ 64 * w))) 0) c.with_bit-2.ensures ∙ insert_3 s c.args.i (omega arith) (omega arith) (omega arith) (omega arith) (omega arith)
