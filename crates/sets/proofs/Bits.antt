-- The list of a number's set bits: which numbers are in it, what setting a bit does to it, and how long it is.
-- Assumes nothing.
use mathlib.Core.Path.{◌≡◌, refl, ap, sym, ◌∙◌}
use mathlib.Core.Logic.{◌⊎◌, inl, inr}
use mathlib.Core.List.{List, ◌∷◌}
use mathlib.Core.Bool.{false}
use Prim.Native.Nat.{ℕ, zero, suc, ◌+◌, ◌*◌, ◌/◌, ◌%◌, ◌^◌, ◌<◌}
use native.Mathlib.Nat.{add-zero, add-suc, suc-add, not-suc-le-zero, le_of_suc-le-suc, pow-suc, pow-succ', div-one, div-div-eq-div-mul, mod-lt}
use native.Mathlib.Omega.{arith}
use lib.Dec.{eqb, lit<}
use lib.ListN.{length}
use lib.Count.{ones, ones_step}
use borrow.Author.Tests.{eq-eqb, ne_eqb, lt-ltb, le-ltb}
use Rattle.sets.specs.Sets.{elem, insert_asc, bits_of, put}

-- a lowest bit is 0 or 1
pub odd_or_even : (n : ℕ) → (n % 2 ≡ 0) ⊎ (n % 2 ≡ 1)
odd_or_even n = go (n % 2) (mod-lt n (lit< tt))
  where
    go : (m : ℕ) → m < 2 → (m ≡ 0) ⊎ (m ≡ 1)
    go zero h = inl refl
    go (suc zero) h = inr refl
    go (suc (suc m)) h = absurd (omega arith)

-- the clauses of `bits_of`, by the lowest bit
bits_odd : (d n b : ℕ) → n % 2 ≡ 1 → bits_of (suc d) n b ≡ b ∷ bits_of d (n / 2) (suc b)
unfolding bits_of
bits_odd d n b e = rw (eq-eqb (n % 2) 1 e)

bits_even : (d n b : ℕ) → n % 2 ≡ 0 → bits_of (suc d) n b ≡ bits_of d (n / 2) (suc b)
unfolding bits_of
bits_even d n b e = rw (ne_eqb (n % 2) 1 (λ f. omega arith))

-- bit i + 1 of n is bit i of n / 2
bit_suc : (n i : ℕ) → n / 2 ^ suc i ≡ n / 2 / 2 ^ i
bit_suc n i = ap (λ (p : ℕ). n / p) (pow-succ' 2 i) ∙ sym (div-div-eq-div-mul n 2 (2 ^ i))

-- nothing below b is in the list
elem_below : (d n b x : ℕ) → x < b → elem x (bits_of d n b) ≡ false
unfolding elem bits_of
elem_below zero n b x h = refl
elem_below (suc d) n b x h = go (odd_or_even n) (elem_below d (n / 2) (suc b) x (omega arith))
  where
    go : (n % 2 ≡ 0) ⊎ (n % 2 ≡ 1) → elem x (bits_of d (n / 2) (suc b)) ≡ false → elem x (bits_of (suc d) n b) ≡ false
    go (inl e) ih = ap (elem x) (bits_even d n b e) ∙ ih
    go (inr e) ih = ap (elem x) (bits_odd d n b e) ∙ rw (ne_eqb x b (λ f. omega arith)) ih

-- a number is in the list if its bit is set
pub elem_bit : (d n b i : ℕ) → i < d → elem (b + i) (bits_of d n b) ≡ eqb (n / 2 ^ i % 2) 1
unfolding elem
elem_bit zero n b i h = absurd (not-suc-le-zero h)
elem_bit (suc d) n b zero h = rw (add-zero b, div-one n) (go (odd_or_even n))
  where
    go : (n % 2 ≡ 0) ⊎ (n % 2 ≡ 1) → elem b (bits_of (suc d) n b) ≡ eqb (n % 2) 1
    go (inl e) = ap (elem b) (bits_even d n b e) ∙ elem_below d (n / 2) (suc b) b (omega arith) ∙ sym (ap (λ (m : ℕ). eqb m 1) e)
    go (inr e) = ap (elem b) (bits_odd d n b e) ∙ rw (eq-eqb b b refl) (sym (ap (λ (m : ℕ). eqb m 1) e))
elem_bit (suc d) n b (suc i) h = rw (bit_suc n i, add-suc b i, ← suc-add b i) (go (odd_or_even n) (elem_bit d (n / 2) (suc b) i (le_of_suc-le-suc h)))
  where
    go : (n % 2 ≡ 0) ⊎ (n % 2 ≡ 1) → elem (suc b + i) (bits_of d (n / 2) (suc b)) ≡ eqb (n / 2 / 2 ^ i % 2) 1
        → elem (suc b + i) (bits_of (suc d) n b) ≡ eqb (n / 2 / 2 ^ i % 2) 1
    go (inl e) ih = ap (elem (suc b + i)) (bits_even d n b e) ∙ ih
    go (inr e) ih = ap (elem (suc b + i)) (bits_odd d n b e) ∙ rw (ne_eqb (suc b + i) b (λ f. omega arith)) ih

-- a number below all of the list goes to its front
insert_front : (d n c x : ℕ) → x < c → insert_asc x (bits_of d n c) ≡ x ∷ bits_of d n c
unfolding insert_asc bits_of
insert_front zero n c x h = refl
insert_front (suc d) n c x h = go (odd_or_even n) (insert_front d (n / 2) (suc c) x (omega arith))
  where
    go : (n % 2 ≡ 0) ⊎ (n % 2 ≡ 1) → insert_asc x (bits_of d (n / 2) (suc c)) ≡ x ∷ bits_of d (n / 2) (suc c)
        → insert_asc x (bits_of (suc d) n c) ≡ x ∷ bits_of (suc d) n c
    go (inl e) ih = rw (bits_even d n c e) ih
    go (inr e) ih = rw (bits_odd d n c e, lt-ltb x c h)

-- a number above b goes behind it
insert_past : (b x : ℕ) (l : List ℕ) → b < x → insert_asc x (b ∷ l) ≡ b ∷ insert_asc x l
unfolding insert_asc
insert_past b x l h = rw (le-ltb x b (omega arith), ne_eqb x b (λ f. omega arith))

-- setting a bit that is not set
insert_new : (d n b i : ℕ) → i < d → n / 2 ^ i % 2 ≡ 0 → bits_of d (n + 2 ^ i) b ≡ insert_asc (b + i) (bits_of d n b)
insert_new zero n b i h z = absurd (not-suc-le-zero h)
insert_new (suc d) n b zero h z =
    let e : n % 2 ≡ 0 = rw (div-one n) at z in
    let q : (n + 1) / 2 ≡ n / 2 = omega arith in
    bits_odd d (n + 1) b (omega arith)
    ∙ ap (λ (m : ℕ). b ∷ bits_of d m (suc b)) q
    ∙ rw (add-zero b, bits_even d n b e) (sym (insert_front d (n / 2) (suc b) b (omega arith)))
insert_new (suc d) n b (suc i) h z =
    rw (add-suc b i, ← suc-add b i) (go (odd_or_even n) (insert_new d (n / 2) (suc b) i (le_of_suc-le-suc h) (ap (λ (m : ℕ). m % 2) (sym (bit_suc n i)) ∙ z)))
  where
    halve : (n + 2 ^ suc i) / 2 ≡ n / 2 + 2 ^ i
    halve = rw (pow-suc 2 i) (omega arith)

    lowest : (n + 2 ^ suc i) % 2 ≡ n % 2
    lowest = rw (pow-suc 2 i) (omega arith)

    go : (n % 2 ≡ 0) ⊎ (n % 2 ≡ 1) → bits_of d (n / 2 + 2 ^ i) (suc b) ≡ insert_asc (suc b + i) (bits_of d (n / 2) (suc b))
        → bits_of (suc d) (n + 2 ^ suc i) b ≡ insert_asc (suc b + i) (bits_of (suc d) n b)
    go (inl e) ih = bits_even d (n + 2 ^ suc i) b (lowest ∙ e) ∙ ap (λ (m : ℕ). bits_of d m (suc b)) halve ∙ ih ∙ ap (insert_asc (suc b + i)) (sym (bits_even d n b e))
    go (inr e) ih =
        bits_odd d (n + 2 ^ suc i) b (lowest ∙ e) ∙ ap (λ (m : ℕ). b ∷ bits_of d m (suc b)) halve ∙ ap (λ (l : List ℕ). b ∷ l) ih
        ∙ sym (insert_past b (suc b + i) (bits_of d (n / 2) (suc b)) (omega arith)) ∙ ap (insert_asc (suc b + i)) (sym (bits_odd d n b e))

-- setting a bit that is set
insert_old : (d n b i : ℕ) → i < d → n / 2 ^ i % 2 ≡ 1 → bits_of d n b ≡ insert_asc (b + i) (bits_of d n b)
unfolding insert_asc
insert_old zero n b i h z = absurd (not-suc-le-zero h)
insert_old (suc d) n b zero h z =
    let e : n % 2 ≡ 1 = rw (div-one n) at z in
    rw (add-zero b, bits_odd d n b e, le-ltb b b (omega arith), eq-eqb b b refl)
insert_old (suc d) n b (suc i) h z =
    rw (add-suc b i, ← suc-add b i) (go (odd_or_even n) (insert_old d (n / 2) (suc b) i (le_of_suc-le-suc h) (ap (λ (m : ℕ). m % 2) (sym (bit_suc n i)) ∙ z)))
  where
    go : (n % 2 ≡ 0) ⊎ (n % 2 ≡ 1) → bits_of d (n / 2) (suc b) ≡ insert_asc (suc b + i) (bits_of d (n / 2) (suc b))
        → bits_of (suc d) n b ≡ insert_asc (suc b + i) (bits_of (suc d) n b)
    go (inl e) ih = bits_even d n b e ∙ ih ∙ ap (insert_asc (suc b + i)) (sym (bits_even d n b e))
    go (inr e) ih =
        bits_odd d n b e ∙ ap (λ (l : List ℕ). b ∷ l) ih
        ∙ sym (insert_past b (suc b + i) (bits_of d (n / 2) (suc b)) (omega arith)) ∙ ap (insert_asc (suc b + i)) (sym (bits_odd d n b e))

-- as many as there are ones
pub length_bits : (d n b : ℕ) → n < 2 ^ d → length (bits_of d n b) ≡ ones n
unfolding bits_of ones
length_bits zero n b h = let z : n ≡ 0 = omega arith in rw z
length_bits (suc d) n b h = go (odd_or_even n) (length_bits d (n / 2) (suc b) (let k : n < 2 ^ d * 2 = rw (pow-suc 2 d) at h in omega arith))
  where
    go : (n % 2 ≡ 0) ⊎ (n % 2 ≡ 1) → length (bits_of d (n / 2) (suc b)) ≡ ones (n / 2) → length (bits_of (suc d) n b) ≡ ones n
    go (inl e) ih = ap length (bits_even d n b e) ∙ omega (arith, ih, ones_step n)
    go (inr e) ih = ap length (bits_odd d n b e) ∙ omega (arith, ih, ones_step n)

-- setting a bit, whether or not it is set
pub insert_put : (d n b i : ℕ) → i < d → bits_of d (put n i) b ≡ insert_asc (b + i) (bits_of d n b)
unfolding put
insert_put d n b i h = go (odd_or_even (n / 2 ^ i))
  where
    go : (n / 2 ^ i % 2 ≡ 0) ⊎ (n / 2 ^ i % 2 ≡ 1) → bits_of d (put n i) b ≡ insert_asc (b + i) (bits_of d n b)
    go (inl e) = rw (ne_eqb (n / 2 ^ i % 2) 1 (λ f. omega arith)) (insert_new d n b i h e)
    go (inr e) = rw (eq-eqb (n / 2 ^ i % 2) 1 e) (insert_old d n b i h e)

-- a number of d bits has room for one of them that is not set
pub bit_fits : (d w k : ℕ) → k < d → w < 2 ^ d → w / 2 ^ k % 2 ≡ 0 → w + 2 ^ k < 2 ^ d
bit_fits zero w k h l z = absurd (not-suc-le-zero h)
bit_fits (suc d) w zero h l z =
    let e : w % 2 ≡ 0 = rw (div-one w) at z in
    let m : w < 2 ^ d * 2 = rw (pow-suc 2 d) at l in
    rw (pow-suc 2 d) (omega arith)
bit_fits (suc d) w (suc k) h l z =
    let m : w < 2 ^ d * 2 = rw (pow-suc 2 d) at l in
    let ih = bit_fits d (w / 2) k (le_of_suc-le-suc h) (omega arith) (ap (λ (m : ℕ). m % 2) (sym (bit_suc w k)) ∙ z) in
    rw (pow-suc 2 d, pow-suc 2 k) (omega arith)
