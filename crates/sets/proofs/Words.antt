-- Four words as one number of 256 bits: in which word a member's bit lies, and how many bits are set in all.
-- Assumes nothing.
use mathlib.Core.Path.{◌≡◌, refl, ap, sym, ◌∙◌}
use mathlib.Core.Bool.{Bool, true, false, cond}
use Prim.Native.Nat.{ℕ, suc, ◌+◌, ◌-◌, ◌*◌, ◌/◌, ◌%◌, ◌^◌, ◌<◌, ◌≤◌}
use native.Mathlib.Nat.{zero-add, pow-suc, mul_assoc, mul_right_comm, add-mul-div_left, add-mul-mod_self_right}
use native.Mathlib.Omega.{arith}
use lib.Dec.{eqb}
use lib.ListN.{length}
use lib.Pow.{pow_pos, pow-add, shr-shr}
use lib.Count.{ones, ones_cat}
use Rattle.sets.specs.Sets.{elem, insert_asc, bits_of, put, value, members}
use Rattle.sets.specs.declared.MacroSet.{MacroSet}
use Rattle.sets.proofs.Bits.{elem_bit, insert_put, length_bits}

-- a word w with a number v above it: bit k of either
module _ (w v k : ℕ) where
  -- what stands above is a multiple of twice bit k
  above : k < 64 → 2 ^ 64 * v ≡ 2 ^ k * (2 ^ (63 - k) * v * 2)
  above h =
      let e : 64 ≡ k + suc (63 - k) = omega arith in
      ap (λ (p : ℕ). p * v) (ap (λ (m : ℕ). 2 ^ m) e ∙ pow-add 2 k (suc (63 - k)) ∙ ap (λ (p : ℕ). 2 ^ k * p) (pow-suc 2 (63 - k)))
      ∙ mul_assoc (2 ^ k) (2 ^ (63 - k) * 2) v
      ∙ ap (λ (p : ℕ). 2 ^ k * p) (mul_right_comm (2 ^ (63 - k)) 2 v)

  -- the bits of w are where they were
  pub low_bit : k < 64 → (w + 2 ^ 64 * v) / 2 ^ k % 2 ≡ w / 2 ^ k % 2
  low_bit h =
      ap (λ (m : ℕ). m % 2) (ap (λ (m : ℕ). (w + m) / 2 ^ k) (above h) ∙ add-mul-div_left w (2 ^ (63 - k) * v * 2) (pow_pos k))
      ∙ add-mul-mod_self_right (w / 2 ^ k) (2 ^ (63 - k) * v) 2

  -- those of v are 64 further on
  pub high_bit : w < 2 ^ 64 → (w + 2 ^ 64 * v) / 2 ^ (64 + k) ≡ v / 2 ^ k
  high_bit h =
      let e : (w + 2 ^ 64 * v) / 2 ^ 64 ≡ v = omega arith in
      sym (shr-shr (w + 2 ^ 64 * v) 64 k) ∙ ap (λ (m : ℕ). m / 2 ^ k) e

  -- and so a bit is set in the one or in the other
  pub put_low : k < 64 → put (w + 2 ^ 64 * v) k ≡ put w k + 2 ^ 64 * v
  unfolding put
  put_low h = rw (low_bit h) (go (eqb (w / 2 ^ k % 2) 1))
    where
      go : (t : Bool) → cond t (w + 2 ^ 64 * v) (w + 2 ^ 64 * v + 2 ^ k) ≡ cond t w (w + 2 ^ k) + 2 ^ 64 * v
      go true = refl
      go false = omega arith

  pub put_high : w < 2 ^ 64 → put (w + 2 ^ 64 * v) (64 + k) ≡ w + 2 ^ 64 * put v k
  unfolding put
  put_high h = rw (high_bit h, pow-add 2 64 k) (go (eqb (v / 2 ^ k % 2) 1))
    where
      go : (t : Bool) → cond t (w + 2 ^ 64 * v) (w + 2 ^ 64 * v + 2 ^ 64 * 2 ^ k) ≡ w + 2 ^ 64 * cond t v (v + 2 ^ k)
      go true = refl
      go false = omega arith

-- the numbers above the lowest word and above the next
abbrev pub above_first : MacroSet → ℕ
above_first s = s.w1 + 2 ^ 64 * (s.w2 + 2 ^ 64 * s.w3)

abbrev pub above_second : MacroSet → ℕ
above_second s = s.w2 + 2 ^ 64 * s.w3

module _ (s : MacroSet) (i : ℕ) where
  -- membership is a bit of the whole number
  elem_value : i < 256 → elem i (members s) ≡ eqb (value s / 2 ^ i % 2) 1
  unfolding members
  elem_value h = rw (zero-add i) at (elem_bit 256 (value s) 0 i h)

  -- by the word that the bit lies in
  pub member_0 : i < 64 → elem i (members s) ≡ eqb (s.w0 / 2 ^ (i % 64) % 2) 1
  unfolding value
  member_0 h = let e : i % 64 ≡ i = omega arith in
      elem_value (omega arith) ∙ ap (λ (n : ℕ). eqb n 1) (low_bit s.w0 (above_first s) i h) ∙ ap (λ (k : ℕ). eqb (s.w0 / 2 ^ k % 2) 1) (sym e)

  pub member_1 : s.w0 < 2 ^ 64 → 64 ≤ i → i < 128 → elem i (members s) ≡ eqb (s.w1 / 2 ^ (i % 64) % 2) 1
  unfolding value
  member_1 f g h = let e : i ≡ 64 + i % 64 = omega arith in
      elem_value (omega arith) ∙ ap (λ (k : ℕ). eqb (value s / 2 ^ k % 2) 1) e
      ∙ ap (λ (n : ℕ). eqb (n % 2) 1) (high_bit s.w0 (above_first s) (i % 64) f)
      ∙ ap (λ (n : ℕ). eqb n 1) (low_bit s.w1 (above_second s) (i % 64) (omega arith))

  pub member_2 : s.w0 < 2 ^ 64 → s.w1 < 2 ^ 64 → 128 ≤ i → i < 192 → elem i (members s) ≡ eqb (s.w2 / 2 ^ (i % 64) % 2) 1
  unfolding value
  member_2 f f1 g h = let e : i ≡ 64 + (64 + i % 64) = omega arith in
      elem_value (omega arith) ∙ ap (λ (k : ℕ). eqb (value s / 2 ^ k % 2) 1) e
      ∙ ap (λ (n : ℕ). eqb (n % 2) 1) (high_bit s.w0 (above_first s) (64 + i % 64) f ∙ high_bit s.w1 (above_second s) (i % 64) f1)
      ∙ ap (λ (n : ℕ). eqb n 1) (low_bit s.w2 s.w3 (i % 64) (omega arith))

  pub member_3 : s.w0 < 2 ^ 64 → s.w1 < 2 ^ 64 → s.w2 < 2 ^ 64 → 192 ≤ i → i < 256 → elem i (members s) ≡ eqb (s.w3 / 2 ^ (i % 64) % 2) 1
  unfolding value
  member_3 f f1 f2 g h = let e : i ≡ 64 + (64 + (64 + i % 64)) = omega arith in
      elem_value (omega arith) ∙ ap (λ (k : ℕ). eqb (value s / 2 ^ k % 2) 1) e
      ∙ ap (λ (n : ℕ). eqb (n % 2) 1)
      (high_bit s.w0 (above_first s) (64 + (64 + i % 64)) f ∙ high_bit s.w1 (above_second s) (64 + i % 64) f1 ∙ high_bit s.w2 s.w3 (i % 64) f2)

  -- to set a bit of the whole number is to insert
  put_value : (n : ℕ) → i < 256 → n ≡ put (value s) i → bits_of 256 n 0 ≡ insert_asc i (members s)
  unfolding members
  put_value n h e = ap (λ (m : ℕ). bits_of 256 m 0) e ∙ rw (zero-add i) at (insert_put 256 (value s) 0 i h)

  -- again by the word
  pub insert_0 : i < 64 → bits_of 256 (put s.w0 (i % 64) + 2 ^ 64 * above_first s) 0 ≡ insert_asc i (members s)
  unfolding value
  insert_0 h = let e : i % 64 ≡ i = omega arith in
      put_value _ (omega arith) (ap (λ (k : ℕ). put s.w0 k + 2 ^ 64 * above_first s) e ∙ sym (put_low s.w0 (above_first s) i h))

  pub insert_1 : s.w0 < 2 ^ 64 → 64 ≤ i → i < 128 → bits_of 256 (s.w0 + 2 ^ 64 * (put s.w1 (i % 64) + 2 ^ 64 * above_second s)) 0 ≡ insert_asc i (members s)
  unfolding value
  insert_1 f g h = let e : i ≡ 64 + i % 64 = omega arith in
      put_value _ (omega arith) (sym (ap (put (value s)) e ∙ put_high s.w0 (above_first s) (i % 64) f
      ∙ ap (λ (n : ℕ). s.w0 + 2 ^ 64 * n) (put_low s.w1 (above_second s) (i % 64) (omega arith))))

  pub insert_2 : s.w0 < 2 ^ 64 → s.w1 < 2 ^ 64 → 128 ≤ i → i < 192
      → bits_of 256 (s.w0 + 2 ^ 64 * (s.w1 + 2 ^ 64 * (put s.w2 (i % 64) + 2 ^ 64 * s.w3))) 0 ≡ insert_asc i (members s)
  unfolding value
  insert_2 f f1 g h = let e : i ≡ 64 + (64 + i % 64) = omega arith in
      put_value _ (omega arith) (sym (ap (put (value s)) e ∙ put_high s.w0 (above_first s) (64 + i % 64) f
      ∙ ap (λ (n : ℕ). s.w0 + 2 ^ 64 * n) (put_high s.w1 (above_second s) (i % 64) f1)
      ∙ ap (λ (n : ℕ). s.w0 + 2 ^ 64 * (s.w1 + 2 ^ 64 * n)) (put_low s.w2 s.w3 (i % 64) (omega arith))))

  pub insert_3 : s.w0 < 2 ^ 64 → s.w1 < 2 ^ 64 → s.w2 < 2 ^ 64 → 192 ≤ i → i < 256
      → bits_of 256 (s.w0 + 2 ^ 64 * (s.w1 + 2 ^ 64 * (s.w2 + 2 ^ 64 * put s.w3 (i % 64)))) 0 ≡ insert_asc i (members s)
  unfolding value
  insert_3 f f1 f2 g h = let e : i ≡ 64 + (64 + (64 + i % 64)) = omega arith in
      put_value _ (omega arith) (sym (ap (put (value s)) e ∙ put_high s.w0 (above_first s) (64 + (64 + i % 64)) f
      ∙ ap (λ (n : ℕ). s.w0 + 2 ^ 64 * n) (put_high s.w1 (above_second s) (64 + i % 64) f1)
      ∙ ap (λ (n : ℕ). s.w0 + 2 ^ 64 * (s.w1 + 2 ^ 64 * n)) (put_high s.w2 s.w3 (i % 64) f2)))

-- the ones of a word and of the number above it
ones_above : (w v : ℕ) → w < 2 ^ 64 → ones (w + 2 ^ 64 * v) ≡ ones w + ones v
ones_above w v h =
    let e : w + 2 ^ 64 * v ≡ v * 2 ^ 64 + w = omega arith in
    let f = ones_cat 64 v w h in
    ap ones e ∙ omega (arith, f)

-- how many bits the two have together
width_above : (w v k : ℕ) → w < 2 ^ 64 → v < 2 ^ k → w + 2 ^ 64 * v < 2 ^ (64 + k)
width_above w v k h l = rw (pow-add 2 64 k) (go (2 ^ k) l)
  where
    go : (p : ℕ) → v < p → w + 2 ^ 64 * v < 2 ^ 64 * p
    go p m = omega arith

sum_of_words : (l a b c d x y z : ℕ) → l ≡ z → z ≡ a + y → y ≡ b + x → x ≡ c + d → a + b + c + d ≡ l
sum_of_words l a b c d x y z e0 e1 e2 e3 = omega arith

-- the ones of the four words are as many as there are members
pub size_of : (s : MacroSet) → s.w0 < 2 ^ 64 → s.w1 < 2 ^ 64 → s.w2 < 2 ^ 64 → s.w3 < 2 ^ 64
    → ones s.w0 + ones s.w1 + ones s.w2 + ones s.w3 ≡ length (members s)
unfolding members value
size_of s h0 h1 h2 h3 =
    sum_of_words _ _ _ _ _ _ _ _
    (length_bits 256 (value s) 0 (width_above s.w0 (above_first s) 192 h0 (width_above s.w1 (above_second s) 128 h1 (width_above s.w2 s.w3 64 h2 h3))))
    (ones_above s.w0 (above_first s) h0) (ones_above s.w1 (above_second s) h1) (ones_above s.w2 s.w3 h2)
