-- The search down a stretch: a word stands nowhere outside the stretch of its first byte, so the answer is found in it.
-- Assumes nothing.
use mathlib.Core.Path.{◌≡◌, refl, sym, ap, ◌∙◌}
use mathlib.Core.Bool.{Bool, true, false, and-false}
use mathlib.Core.List.{List, [], ◌∷◌}
use mathlib.Core.Logic.{◌⊎◌, inl, inr}
use Prim.Native.Nat.{ℕ, zero, suc, ◌+◌, ◌<◌, ◌≤◌}
use native.Mathlib.Nat.{not-suc-le-zero, le_of_suc-le-suc, eq-or-lt_of_le}
use native.Mathlib.Omega.{arith}
use lib.Dec.{leb, ltb}
use lib.ListN.{length, get_or}
use borrow.Author.Tests.{ltb-true, ltb-false, lt-leb, le-ltb, eq-eqb}
use Rattle.text.specs.Bytes.{same}
use Rattle.text.proofs.Matching.{same_equal}
use Rattle.keywords.specs.Keywords.{Keyword, keywords, word_at, reserved_in, is_reserved}
use Rattle.keywords.specs.Letters.{starts_with, is_in, StretchOf}
use Rattle.keywords.specs.Tables.{keyword_firsts}
use Rattle.keywords.specs.declared.letters.Stretch.{Stretch}
use Rattle.keywords.proofs.Places.{word_of, first_of, first_at}
use Rattle.keywords.proofs.Stretches.{not_longer}

-- a word that is none of a list
none_reserved : (ks : List Keyword) (w : List ℕ) (v : ℕ) → ((k : ℕ) → k < length ks → same w (word_of ks k) ≡ false) → reserved_in ks w v ≡ false
unfolding reserved_in
none_reserved [] w v h = refl
none_reserved (x ∷ ks) w v h = rw (h 0 (omega arith)) (none_reserved ks w v (λ k l. h (suc k) (omega arith)))

-- a word that is word k and none before it
one_reserved : (ks : List Keyword) (w : List ℕ) (v k : ℕ) → k < length ks → ((i : ℕ) → i < k → same w (word_of ks i) ≡ false)
    → same w (word_of ks k) ≡ true → reserved_in ks w v ≡ leb (first_of ks k) v
unfolding reserved_in
one_reserved [] w v k h n e = absurd (not-suc-le-zero h)
one_reserved (x ∷ ks) w v zero h n e = rw e
one_reserved (x ∷ ks) w v (suc k) h n e =
    rw (n 0 (omega arith)) (one_reserved ks w v k (le_of_suc-le-suc h) (λ i l. n (suc i) (omega arith)) e)

-- what the search has shown: no word before k is w
pub record Passed (w : List ℕ) (k : ℕ) : Type 0 where
  pub differs : (i : ℕ) → i < k → i < 221 → same w (word_at i) ≡ false

pub passed_one : {w : List ℕ} {k : ℕ} → Passed w k → same w (word_at k) ≡ false → Passed w (k + 1)
passed_one {w} {k} p e = record { differs = λ i l h. go i h (eq-or-lt_of_le (omega arith)) }
  where
    go : (i : ℕ) → i < 221 → (i ≡ k) ⊎ (i < k) → same w (word_at i) ≡ false
    go i h (inl q) = rw q e
    go i h (inr g) = p.differs i g h

pub found : {w f : List ℕ} {k : ℕ} → Passed w k → f ≡ keyword_firsts → (v : ℕ) → k < 221 → same w (word_at k) ≡ true → leb (get_or f k 0) v ≡ is_reserved w v
unfolding is_reserved keywords word_at
found {w} {f} {k} p q v h e =
    ap (λ (l : List ℕ). leb (get_or l k 0) v) q ∙ ap (λ (n : ℕ). leb n v) (first_at k)
    ∙ sym (one_reserved keywords w v k h (λ i l. p.differs i l (omega arith)) e)

-- a word that is word k starts as it does
starts_so : (w : List ℕ) (k : ℕ) → same w (word_at k) ≡ true → starts_with (get_or w 0 0) (word_at k) ≡ true
starts_so w k e = eq-eqb (get_or (word_at k) 0 0) (get_or w 0 0) (ap (λ (l : List ℕ). get_or l 0 0) (sym (same_equal w (word_at k) e)))

module _ (w : List ℕ) {s : Stretch} (r : StretchOf (get_or w 0 0) s) where
  -- w is no word outside the stretch of its first byte
  outside : (k : ℕ) → k < 221 → is_in s k ≡ false → same w (word_at k) ≡ false
  outside k l n = go (same w (word_at k)) refl
    where
      go : (t : Bool) → same w (word_at k) ≡ t → t ≡ false
      go true e = sym (starts_so w k e) ∙ r.its_words k l ∙ n
      go false e = refl

  pub passed_before : Passed w s.from
  passed_before = record { differs = λ k l h. outside k h (rw (lt-leb s.from k l)) }

  pub passed_all : {k : ℕ} → Passed w k → (v : ℕ) → s.end ≤ k → false ≡ is_reserved w v
  unfolding is_reserved keywords word_at
  passed_all {k} p v h = sym (none_reserved keywords w v (λ i l. go i l (ltb i k) refl))
    where
      go : (i : ℕ) → i < 221 → (t : Bool) → ltb i k ≡ t → same w (word_at i) ≡ false
      go i l true e = p.differs i (ltb-true i k e) l
      go i l false e =
          let g = ltb-false i k e in
          outside i l (rw (le-ltb i s.end (omega arith)) (and-false (leb s.from i)))

  -- nor is it a word of the stretch if it is longer than all of them
  pub too_long : (v : ℕ) → s.longest < length w → false ≡ is_reserved w v
  unfolding is_reserved keywords word_at
  too_long v h = sym (none_reserved keywords w v (λ k l. go k l (same w (word_at k)) refl))
    where
      go : (k : ℕ) → k < 221 → (t : Bool) → same w (word_at k) ≡ t → t ≡ false
      go k l true e =
          let n = not_longer (get_or w 0 0) keywords k l (starts_so w k e) in
          let q = ap length (same_equal w (word_at k) e) in
          let m = r.its_longest in
          absurd (omega arith)
      go k l false e = refl
