-- Each letter's stretch holds every word that starts with it and no other: one computed test over the whole table, and
-- the rule at each letter from it.
-- Assumes nothing.
use mathlib.Core.Path.{◌≡◌, refl, sym, ap, ◌∙◌}
use mathlib.Core.Bool.{Bool, true, false, cond, not, ◌&&◌, ◌||◌, beq, false≢true, and-eq-true_iff}
use mathlib.Core.List.{List, [], ◌∷◌, ◌++◌, map}
use mathlib.Core.Logic.{◌⊎◌, inl, inr}
use Prim.Native.Nat.{ℕ, zero, suc, ◌+◌, ◌-◌, ◌<◌, ◌≤◌}
use native.Mathlib.Nat.{not-suc-le-zero, le_of_suc-le-suc, eq-or-lt_of_le}
use native.Mathlib.Omega.{arith}
use lib.Dec.{eqb, leb, ltb}
use lib.ListN.{length, get_or}
use borrow.Author.Tests.{eqb-true, leb-true, ltb-true, ltb-false, le-leb, le-ltb, ne_eqb, not-true}
use Rattle.text.specs.Bytes.{bytes}
use Rattle.keywords.specs.Keywords.{Keyword, word, keywords, word_at}
use Rattle.keywords.specs.Letters.{starts_with, longest_of, is_in, StretchOf}
use Rattle.keywords.specs.declared.letters.Stretch.{Stretch}
use Rattle.keywords.proofs.Places.{word_of}

-- whether a test holds of each number below n
unfoldable each : (ℕ → Bool) → ℕ → Bool
each p zero = true
each p (suc n) = p n && each p n

each_true : (p : ℕ → Bool) (n k : ℕ) → each p n ≡ true → k < n → p k ≡ true
unfolding each
each_true p zero k e h = absurd (not-suc-le-zero h)
each_true p (suc n) k e h =
    let s = (and-eq-true_iff (p n) (each p n)).0 e in
    go (eq-or-lt_of_le (omega arith)) s.0 (each_true p n k s.1)
  where
    go : (k ≡ n) ⊎ (k < n) → p n ≡ true → (k < n → p k ≡ true) → p k ≡ true
    go (inl q) t r = rw q t
    go (inr l) t r = r l

beq_equal : (t u : Bool) → beq t u ≡ true → t ≡ u
beq_equal true true e = refl
beq_equal true false e = cc
beq_equal false true e = cc
beq_equal false false e = refl

-- the test of one stretch, and at word k
abbrev agrees : ℕ → Stretch → ℕ → Bool
agrees b s k = beq (starts_with b (word_at k)) (is_in s k)

unfoldable is_stretch : ℕ → Stretch → Bool
is_stretch b s = each (agrees b s) 221 && (leb s.end 221 && eqb s.longest (longest_of b keywords))

at_letter : (b : ℕ) (s : Stretch) → is_stretch b s ≡ true → StretchOf b s
unfolding is_stretch
at_letter b s e =
    let p = (and-eq-true_iff (each (agrees b s) 221) (leb s.end 221 && eqb s.longest (longest_of b keywords))).0 e in
    let q = (and-eq-true_iff (leb s.end 221) (eqb s.longest (longest_of b keywords))).0 p.1 in
    record {
      its_words = λ k l. beq_equal (starts_with b (word_at k)) (is_in s k) (each_true (agrees b s) 221 k p.0 l);
      in_table = leb-true s.end 221 q.0;
      its_longest = eqb-true s.longest (longest_of b keywords) q.1;
    }

-- how many words of a list start with a byte below b
unfoldable pub count_below : ℕ → List Keyword → ℕ
count_below b [] = 0
count_below b (k ∷ ks) = cond (ltb (get_or (word k) 0 0) b) 1 0 + count_below b ks

unfoldable pub letters : List ℕ
letters = bytes "abcdefghijklmnopqrstuvwxyz"

-- the two tables of the letters, made from the readable list
unfoldable pub letter_starts : List ℕ
letter_starts = map (λ b. count_below b keywords) letters ++ (221 ∷ [])

unfoldable pub letter_longest : List ℕ
letter_longest = map (λ b. longest_of b keywords) letters

-- the stretch that they give small letter number c
abbrev pub letter_stretch : ℕ → Stretch
letter_stretch c = record { from = get_or letter_starts c 0; end = get_or letter_starts (c + 1) 0; longest = get_or letter_longest c 0 }

-- the test at each letter of the whole table
tested : each (λ c. is_stretch (97 + c) (letter_stretch c)) 26 ≡ true
unfolding each is_stretch letter_starts letter_longest letters count_below longest_of keywords word_at bytes
tested = refl

-- and so the rule at each letter
pub each_letter : (b : ℕ) → 97 ≤ b → b ≤ 122 → StretchOf b (letter_stretch (b - 97))
each_letter b h t =
    let q : 97 + (b - 97) ≡ b = omega arith in
    at_letter b (letter_stretch (b - 97)) (rw q at (each_true (λ c. is_stretch (97 + c) (letter_stretch c)) 26 (b - 97) tested (omega arith)))

-- a byte that is no small letter
abbrev pub is_other : ℕ → Bool
is_other b = ltb b 97 || ltb 122 b

pub small_letter : (b : ℕ) → is_other b ≡ false → (97 ≤ b) × (b ≤ 122)
small_letter b e = go (ltb b 97) (ltb 122 b) refl refl e
  where
    go : (t u : Bool) → ltb b 97 ≡ t → ltb 122 b ≡ u → (t || u) ≡ false → (97 ≤ b) × (b ≤ 122)
    go true u p q h = absurd (false≢true (sym h))
    go false true p q h = absurd (false≢true (sym h))
    go false false p q h = (ltb-false b 97 p, ltb-false 122 b q)

-- every word starts with a small letter, so none with another byte
small_initials : each (λ k. not (is_other (get_or (word_at k) 0 0))) 221 ≡ true
unfolding each keywords word_at bytes
small_initials = refl

starts_not : (b : ℕ) → is_other b ≡ true → (k : ℕ) → k < 221 → starts_with b (word_at k) ≡ false
starts_not b n k l =
    let s = not-true (is_other (get_or (word_at k) 0 0)) (each_true (λ i. not (is_other (get_or (word_at i) 0 0))) 221 k small_initials l) in
    ne_eqb (get_or (word_at k) 0 0) b (λ q. false≢true (sym s ∙ ap is_other q ∙ n))

-- the longest of the words that start with b is 0 long if none does
none_longest : (b : ℕ) (ks : List Keyword) → ((k : ℕ) → k < length ks → starts_with b (word_of ks k) ≡ false) → longest_of b ks ≡ 0
unfolding longest_of
none_longest b [] h = refl
none_longest b (x ∷ ks) h = rw (h 0 (omega arith)) (none_longest b ks (λ k l. h (suc k) (omega arith)))

pub no_letter : (b : ℕ) → is_other b ≡ true → StretchOf b (record { from = 0; end = 0; longest = 0 })
unfolding keywords word_at
no_letter b n =
    record {
      its_words = λ k l. rw (le-leb 0 k (omega arith), le-ltb k 0 (omega arith)) (starts_not b n k l);
      in_table = omega arith;
      its_longest = sym (none_longest b keywords (starts_not b n));
    }

-- no word that starts with b is longer than the longest
pub not_longer : (b : ℕ) (ks : List Keyword) (k : ℕ) → k < length ks → starts_with b (word_of ks k) ≡ true → length (word_of ks k) ≤ longest_of b ks
unfolding longest_of
not_longer b [] k h e = absurd (not-suc-le-zero h)
not_longer b (x ∷ ks) zero h e = rw e (go (ltb (longest_of b ks) (length (word x))) refl)
  where
    go : (t : Bool) → ltb (longest_of b ks) (length (word x)) ≡ t → length (word x) ≤ cond t (length (word x)) (longest_of b ks)
    go true q = omega arith
    go false q = ltb-false (longest_of b ks) (length (word x)) q
not_longer b (x ∷ ks) (suc k) h e = go (starts_with b (word x)) (ltb (longest_of b ks) (length (word x))) refl (not_longer b ks k (le_of_suc-le-suc h) e)
  where
    go : (t u : Bool) → ltb (longest_of b ks) (length (word x)) ≡ u → length (word_of ks k) ≤ longest_of b ks
        → length (word_of ks k) ≤ cond (t && u) (length (word x)) (longest_of b ks)
    go true true q ih = let f = ltb-true (longest_of b ks) (length (word x)) q in omega arith
    go true false q ih = ih
    go false u q ih = ih
