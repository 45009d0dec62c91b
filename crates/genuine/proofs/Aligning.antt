-- A text w from i on and s from j on, which is its spelling and what stands behind: one byte at a time, and some bytes that both have.
-- Assumes nothing.
use Prim.Native.Nat.{ℕ, suc, ◌+◌, ◌<◌, ◌≤◌}
use mathlib.Core.Bool.{Bool, true, false, cond, ◌||◌}
use mathlib.Core.List.{List, [], ◌∷◌, ◌++◌}
use mathlib.Core.Path.{◌≡◌, refl, sym, ap, ◌∙◌}
use native.Mathlib.Numerals.{add-one}
use native.Mathlib.Omega.{arith}
use lib.Dec.{eqb, leb}
use lib.ListN.{length, get_or, drop, drop_of_length-le}
use lib.Seq.{drop-cons}
use borrow.Author.Tests.{eqb-true, ne_eqb, eq-eqb, leb-true, leb-false}
use Rattle.text.specs.Bytes.{part}
use Rattle.text.proofs.Matching.{part_none}
use Rattle.lex.proofs.Tests.{true_false, read_within}
use Rattle.genuine.specs.Spelling.{spelled}
use Rattle.genuine.proofs.Tests.{or_left, or_right}
use Rattle.genuine.proofs.Parts.{head_at, part_join, part_one}

-- what may stand behind: nothing, or a space
pub data Behind : List ℕ → Type 0 where
  nothing : Behind []
  space : {r : List ℕ} → Behind (32 ∷ r)

pub record Aligned (s w tail : List ℕ) (i j : ℕ) : Type 0 where
  pub behind : Behind tail
  pub rest : drop j s ≡ spelled (drop i w) ++ tail

-- a test that fails where a text ends or its spelling differs from it
abbrev pub Clear : (ℕ → Bool) → Type 0
Clear p = (p 0 || (p 10 || (p 32 || p 92))) ≡ false

module _ (p : ℕ → Bool) (c : Clear p) where
  pub clear_end : p 0 ≡ false
  clear_end = or_left (p 0) (p 10 || (p 32 || p 92)) c

  pub clear_newline : p 10 ≡ false
  clear_newline = or_left (p 10) (p 32 || p 92) (or_right (p 0) (p 10 || (p 32 || p 92)) c)

  clear_space : p 32 ≡ false
  clear_space = or_left (p 32) (p 92) (or_right (p 10) (p 32 || p 92) (or_right (p 0) (p 10 || (p 32 || p 92)) c))

  clear_slash : p 92 ≡ false
  clear_slash = or_right (p 32) (p 92) (or_right (p 10) (p 32 || p 92) (or_right (p 0) (p 10 || (p 32 || p 92)) c))

  first_alike : {tail : List ℕ} → Behind tail → (xs : List ℕ) → p (get_or (spelled xs ++ tail) 0 0) ≡ p (get_or xs 0 0)
  unfolding spelled
  first_alike nothing [] = refl
  first_alike space [] = clear_space ∙ sym clear_end
  first_alike {tail} k (x ∷ xs) = go (eqb x 10) refl
    where
      go : (b : Bool) → eqb x 10 ≡ b → p (get_or (cond b (92 ∷ 10 ∷ spelled xs) (x ∷ spelled xs) ++ tail) 0 0) ≡ p x
      go true e = clear_slash ∙ sym (ap p (eqb-true x 10 e) ∙ clear_newline)
      go false e = refl

-- the first byte of a spelling is no newline
first_solid : {tail : List ℕ} → Behind tail → (xs : List ℕ) → eqb (get_or (spelled xs ++ tail) 0 0) 10 ≡ false
unfolding spelled
first_solid nothing [] = refl
first_solid space [] = refl
first_solid {tail} k (x ∷ xs) = go (eqb x 10) refl
  where
    go : (b : Bool) → eqb x 10 ≡ b → eqb (get_or (cond b (92 ∷ 10 ∷ spelled xs) (x ∷ spelled xs) ++ tail) 0 0) 10 ≡ false
    go true e = refl
    go false e = e

-- a text from j on that begins with y
record Begins (s : List ℕ) (j y : ℕ) (r : List ℕ) : Type 0 where
  within : j < length s
  byte : get_or s j 0 ≡ y
  rest : drop (j + 1) s ≡ r

begins : (s : List ℕ) (j y : ℕ) (r : List ℕ) → drop j s ≡ y ∷ r → Begins s j y r
begins s j y r e = go (leb (length s) j) refl
  where
    go : (b : Bool) → leb (length s) j ≡ b → Begins s j y r
    go true q =
        let n : drop j s ≡ [] = drop_of_length-le s (leb-true (length s) j q) in
        let z : ◌≡◌ {A = ℕ} 0 1 = cc in
        absurd (omega arith)
    go false q =
        let l : j < length s = leb-false (length s) j q in
        let d : drop j s ≡ get_or s j 0 ∷ drop (suc j) s = drop-cons s j 0 l in
        record { within = l; byte = cc; rest = rw (add-one j) (cc) }

spaced : (s : List ℕ) (j : ℕ) {tail : List ℕ} → Behind tail → drop j s ≡ tail → j < length s → get_or s j 0 ≡ 32
spaced s j nothing e l = let d : drop j s ≡ get_or s j 0 ∷ drop (suc j) s = drop-cons s j 0 l in cc
spaced s j space e l = let d : drop j s ≡ get_or s j 0 ∷ drop (suc j) s = drop-cons s j 0 l in cc

-- the same bytes from i to before e and from j to before f, none of them a newline
pub record Along (s w tail : List ℕ) (i j e f : ℕ) : Type 0 where
  pub past : i ≤ e
  pub within : e ≤ length w
  pub even : e + j ≡ f + i
  pub same : part s j f ≡ part w i e
  pub aligned : Aligned s w tail e f

module _ {s w tail : List ℕ} where
  module _ {i j : ℕ} (a : Aligned s w tail i j) where
    -- a clear test has one outcome on both
    pub test_alike : (p : ℕ → Bool) → Clear p → p (get_or s j 0) ≡ p (get_or w i 0)
    test_alike p c =
        ap p (sym (head_at s j) ∙ ap (λ (r : List ℕ). get_or r 0 0) a.rest)
        ∙ (first_alike p c a.behind (drop i w) ∙ ap p (head_at w i))

    pub never_newline : eqb (get_or s j 0) 10 ≡ false
    never_newline =
        ap (λ (b : ℕ). eqb b 10) (sym (head_at s j) ∙ ap (λ (r : List ℕ). get_or r 0 0) a.rest)
        ∙ first_solid a.behind (drop i w)

    pub along_none : i ≤ length w → Along s w tail i j i j
    along_none l =
        record {
          past = omega arith;
          within = l;
          even = omega arith;
          same = part_none s j j (omega arith) ∙ sym (part_none w i i (omega arith));
          aligned = a;
        }

    -- a byte other than a newline
    module _ (l : i < length w) (n : eqb (get_or w i 0) 10 ≡ false) where
      begun : Begins s j (get_or w i 0) (spelled (drop (i + 1) w) ++ tail)
      unfolding spelled
      begun = begins s j (get_or w i 0) (spelled (drop (i + 1) w) ++ tail) (a.rest ∙ rw (add-one i, drop-cons w i 0 l, n))

      pub byte_alike : get_or s j 0 ≡ get_or w i 0
      byte_alike = begun.byte

      pub byte_within : j < length s
      byte_within = begun.within

      pub along_one : Along s w tail i j (i + 1) (j + 1)
      along_one =
          record {
            past = omega arith;
            within = omega arith;
            even = omega arith;
            same = part_one s j begun.within ∙ (ap (λ (b : ℕ). b ∷ []) begun.byte ∙ sym (part_one w i l));
            aligned = record { behind = a.behind; rest = begun.rest };
          }

    -- a newline
    module _ (l : i < length w) (n : get_or w i 0 ≡ 10) where
      turned : Begins s j 92 (10 ∷ (spelled (drop (i + 1) w) ++ tail))
      unfolding spelled
      turned = begins s j 92 (10 ∷ (spelled (drop (i + 1) w) ++ tail)) (a.rest ∙ rw (add-one i, drop-cons w i 0 l, eq-eqb (get_or w i 0) 10 n))

      broken : Begins s (j + 1) 10 (spelled (drop (i + 1) w) ++ tail)
      broken = begins s (j + 1) 10 (spelled (drop (i + 1) w) ++ tail) turned.rest

      pub newline_within : j < length s
      newline_within = turned.within

      pub newline_slash : get_or s j 0 ≡ 92
      newline_slash = turned.byte

      pub newline_next : get_or s (j + 1) 0 ≡ 10
      newline_next = broken.byte

      pub newline_past : Aligned s w tail (i + 1) (j + 2)
      newline_past =
          let q : j + 2 ≡ j + 1 + 1 = omega arith in
          record { behind = a.behind; rest = ap (λ (n : ℕ). drop n s) q ∙ broken.rest }

    -- a byte that passes a test
    module _ (p : ℕ → Bool) (z : p 0 ≡ false) (n : p 10 ≡ false) (e : p (get_or w i 0) ≡ true) where
      passed_solid : eqb (get_or w i 0) 10 ≡ false
      passed_solid = ne_eqb (get_or w i 0) 10 (λ q. true_false (p 10) (ap p (sym q) ∙ e) n)

      pub along_passed : Along s w tail i j (i + 1) (j + 1)
      along_passed = along_one (read_within p z w i e) passed_solid

      pub passed_alike : get_or s j 0 ≡ get_or w i 0
      passed_alike = byte_alike (read_within p z w i e) passed_solid

    -- past the text nothing stands, or a space
    pub end_space : length w ≤ i → j < length s → get_or s j 0 ≡ 32
    unfolding spelled
    end_space h = spaced s j a.behind (a.rest ∙ rw (drop_of_length-le w h))

  pub along_join : {i j e f n m : ℕ} → Along s w tail i j e f → Along s w tail e f n m → Along s w tail i j n m
  along_join {i} {j} {e} {f} {n} {m} a b =
      let p : j ≤ f = omega arith in
      let q : f ≤ m = omega arith in
      record {
        past = omega arith;
        within = b.within;
        even = omega arith;
        same = part_join s j f m p q ∙ (ap (λ (r : List ℕ). r ++ part s f m) a.same ∙ (ap (λ (r : List ℕ). part w i e ++ r) b.same ∙ sym (part_join w i e n a.past b.past)));
        aligned = b.aligned;
      }
