-- Two sets word by word with `|`: what is in either.
-- Assumes nothing.
use mathlib.Core.Path.{◌≡◌, refl, ap, ap₂, sym, ◌∙◌}
use mathlib.Core.Bool.{Bool, true, false, ◌||◌}
use mathlib.Core.List.{List}
use Prim.Native.Nat.{ℕ, zero, suc, ◌+◌, ◌*◌, ◌/◌, ◌%◌, ◌^◌, ◌<◌, ◌≤◌, max}
use native.Mathlib.Nat.{mod-lt}
use native.Mathlib.Omega.{arith}
use lib.Bits.{bit_or, or_step, or_shr, or_lt}
use lib.Dec.{eqb, ltb, lit<}
use borrow.Author.Tests.{eq-eqb, ne_eqb, ltb-true, ltb-false}
use Rattle.sets.specs.Sets.{elem, cons_if, bits_of, members, value}
use Rattle.sets.specs.declared.MacroSet.{MacroSet}
use Rattle.sets.proofs.Words.{member_0, member_1, member_2, member_3}

-- the lowest bit, by those of the two
lowest : (n q x y : ℕ) → n ≡ q * 2 + max x y → x < 2 → y < 2 → eqb (n % 2) 1 ≡ (eqb x 1 || eqb y 1)
lowest n q zero zero e h l = ne_eqb (n % 2) 1 (λ f. omega arith)
lowest n q zero (suc zero) e h l = eq-eqb (n % 2) 1 (omega arith)
lowest n q zero (suc (suc y)) e h l = absurd (omega arith)
lowest n q (suc zero) zero e h l = eq-eqb (n % 2) 1 (omega arith)
lowest n q (suc zero) (suc zero) e h l = eq-eqb (n % 2) 1 (omega arith)
lowest n q (suc zero) (suc (suc y)) e h l = absurd (omega arith)
lowest n q (suc (suc x)) y e h l = absurd (omega arith)

-- bit k
bit-or : (a b k : ℕ) → eqb (bit_or a b / 2 ^ k % 2) 1 ≡ (eqb (a / 2 ^ k % 2) 1 || eqb (b / 2 ^ k % 2) 1)
bit-or a b k =
    let x : ℕ = a / 2 ^ k in
    let y : ℕ = b / 2 ^ k in
    ap (λ (n : ℕ). eqb (n % 2) 1) (or_shr a b k) ∙ lowest (bit_or x y) (bit_or (x / 2) (y / 2)) (x % 2) (y % 2) (or_step x y) (mod-lt x (lit< tt)) (mod-lt y (lit< tt))

-- a number that is neither in front nor behind
elem_neither : (t : Bool) (x b : ℕ) (l : List ℕ) → eqb x b ≡ false → elem x l ≡ false → elem x (cons_if t b l) ≡ false
unfolding elem
elem_neither true x b l h e = rw h e
elem_neither false x b l h e = e

-- nothing past the bits is in their list
elem_past : (d n b x : ℕ) → b + d ≤ x → elem x (bits_of d n b) ≡ false
unfolding elem bits_of
elem_past zero n b x h = refl
elem_past (suc d) n b x h = elem_neither (eqb (n % 2) 1) x b (bits_of d (n / 2) (suc b)) (ne_eqb x b (λ f. omega arith)) (elem_past d (n / 2) (suc b) x (omega arith))

none_past : (s : MacroSet) (i : ℕ) → 256 ≤ i → elem i (members s) ≡ false
unfolding members
none_past s i h = elem_past 256 (value s) 0 i (omega arith)

abbrev pub either : MacroSet → MacroSet → MacroSet
either a b = record { w0 = bit_or a.w0 b.w0; w1 = bit_or a.w1 b.w1; w2 = bit_or a.w2 b.w2; w3 = bit_or a.w3 b.w3 }

-- the words below the last fit
pub record Words (s : MacroSet) : Type 0 where
  pub fits0 : s.w0 < 2 ^ 64
  pub fits1 : s.w1 < 2 ^ 64
  pub fits2 : s.w2 < 2 ^ 64

module _ (a b : MacroSet) (ha : Words a) (hb : Words b) (i : ℕ) where
  abbrev Both : Type 0
  Both = elem i (members (either a b)) ≡ (elem i (members a) || elem i (members b))

  low0 : bit_or a.w0 b.w0 < 2 ^ 64
  low0 = or_lt 64 a.w0 b.w0 ha.fits0 hb.fits0

  low1 : bit_or a.w1 b.w1 < 2 ^ 64
  low1 = or_lt 64 a.w1 b.w1 ha.fits1 hb.fits1

  low2 : bit_or a.w2 b.w2 < 2 ^ 64
  low2 = or_lt 64 a.w2 b.w2 ha.fits2 hb.fits2

  -- by the word that i lies in
  in_0 : i < 64 → Both
  in_0 h = member_0 (either a b) i h ∙ bit-or a.w0 b.w0 (i % 64) ∙ sym (ap₂ ◌||◌ (member_0 a i h) (member_0 b i h))

  in_1 : 64 ≤ i → i < 128 → Both
  in_1 g h =
      member_1 (either a b) i low0 g h ∙ bit-or a.w1 b.w1 (i % 64)
      ∙ sym (ap₂ ◌||◌ (member_1 a i ha.fits0 g h) (member_1 b i hb.fits0 g h))

  in_2 : 128 ≤ i → i < 192 → Both
  in_2 g h =
      member_2 (either a b) i low0 low1 g h ∙ bit-or a.w2 b.w2 (i % 64)
      ∙ sym (ap₂ ◌||◌ (member_2 a i ha.fits0 ha.fits1 g h) (member_2 b i hb.fits0 hb.fits1 g h))

  in_3 : 192 ≤ i → i < 256 → Both
  in_3 g h =
      member_3 (either a b) i low0 low1 low2 g h ∙ bit-or a.w3 b.w3 (i % 64)
      ∙ sym (ap₂ ◌||◌ (member_3 a i ha.fits0 ha.fits1 ha.fits2 g h) (member_3 b i hb.fits0 hb.fits1 hb.fits2 g h))

  in_none : 256 ≤ i → Both
  in_none h = none_past (either a b) i h ∙ sym (ap₂ ◌||◌ (none_past a i h) (none_past b i h))

  from_192 : (t : Bool) → ltb i 256 ≡ t → 192 ≤ i → Both
  from_192 true e g = in_3 g (ltb-true i 256 e)
  from_192 false e g = in_none (ltb-false i 256 e)

  from_128 : (t : Bool) → ltb i 192 ≡ t → 128 ≤ i → Both
  from_128 true e g = in_2 g (ltb-true i 192 e)
  from_128 false e g = from_192 (ltb i 256) refl (ltb-false i 192 e)

  from_64 : (t : Bool) → ltb i 128 ≡ t → 64 ≤ i → Both
  from_64 true e g = in_1 g (ltb-true i 128 e)
  from_64 false e g = from_128 (ltb i 192) refl (ltb-false i 128 e)

  from_0 : (t : Bool) → ltb i 64 ≡ t → Both
  from_0 true e = in_0 (ltb-true i 64 e)
  from_0 false e = from_64 (ltb i 128) refl (ltb-false i 64 e)

  pub in_either : elem i (members (either a b)) ≡ (elem i (members a) || elem i (members b))
  in_either = from_0 (ltb i 64) refl
