-- Ways whose inner macros are all below k: what k rounds of Warshall's algorithm know.
-- Assumes nothing.
use mathlib.Core.Path.{◌≡◌, refl, sym, subst, ◌∙◌}
use mathlib.Core.Logic.{◌⊎◌, inl, inr}
use mathlib.Core.Bool.{Bool, true, false, false≢true, ◌||◌, ◌&&◌}
use mathlib.Core.List.{List}
use Prim.Native.Nat.{ℕ, ◌+◌, ◌<◌, ◌≤◌}
use native.Mathlib.Nat.{not-suc-le-zero}
use native.Mathlib.Omega.{arith}
use lib.Dec.{eqb}
use lib.ListN.{length}
use borrow.Author.Tests.{eqb-true, eqb-false}
use Rattle.reach.specs.Reaching.{has_bit, Fits, JoinedAll, Way, step, then, Closed}

-- a way from i to j along the rows, of one step or more, that passes only macros below k
pub data Inner (r : List (List ℕ)) (k : ℕ) : ℕ → ℕ → Type 0 where
  straight : {i j : ℕ} → has_bit r i j ≡ true → Inner r k i j
  past : {i m j : ℕ} → m < k → has_bit r i m ≡ true → Inner r k m j → Inner r k i j

module _ (r : List (List ℕ)) where
  -- the bound may grow
  wider : {k i j : ℕ} → Inner r k i j → Inner r (k + 1) i j
  wider (straight h) = straight h
  wider {k} (past {m = m} l h w) = let b : m < k + 1 = omega arith in past b h (wider w)

  -- two ways that meet at k
  meet_at : {k i t j : ℕ} → t ≡ k → Inner r k i t → Inner r k t j → Inner r (k + 1) i j
  meet_at {k} {t = t} e (straight h) v = let b : t < k + 1 = omega arith in past b h (wider v)
  meet_at {k} e (past {m = m} l h w) v = let b : m < k + 1 = omega arith in past b h (meet_at e w v)

  meet : {k i j : ℕ} → Inner r k i k → Inner r k k j → Inner r (k + 1) i j
  meet u v = meet_at refl u v

  -- a way that may pass k does not, or comes to k and goes on from there
  part : {k i j : ℕ} → Inner r (k + 1) i j → Inner r k i j ⊎ (Inner r k i k × Inner r k k j)
  part (straight h) = inl (straight h)
  part {k} {i} {j} (past {m = m} l h w) = go (eqb m k) refl (part w)
    where
      go : (t : Bool) → eqb m k ≡ t → Inner r k m j ⊎ (Inner r k m k × Inner r k k j) → Inner r k i j ⊎ (Inner r k i k × Inner r k k j)
      go true e (inl v) = let q = eqb-true m k e in inr (straight (subst (λ (x : ℕ). has_bit r i x ≡ true) q h), subst (λ (x : ℕ). Inner r k x j) q v)
      go true e (inr v) = inr (straight (subst (λ (x : ℕ). has_bit r i x ≡ true) (eqb-true m k e) h), v.1)
      go false e (inl v) = let b : m < k = omega (arith, eqb-false m k e) in inl (past b h v)
      go false e (inr v) = let b : m < k = omega (arith, eqb-false m k e) in inr (past b h v.0, v.1)

  -- with nothing to pass there is one step
  one_step : {i j : ℕ} → Inner r 0 i j → has_bit r i j ≡ true
  one_step (straight h) = h
  one_step (past l h w) = absurd (not-suc-le-zero l)

  -- it is a way, and each way of n macros that name only each other is one
  way : {k i j : ℕ} → Inner r k i j → Way r i j
  way (straight h) = step h
  way (past l h w) = then h (way w)

  all_inner : {n i j : ℕ} → Fits r n → i < n → Way r i j → Inner r n i j
  all_inner f l (step h) = straight h
  all_inner {n} {i} f l (then {k = m} h w) = let b : m < n = f.named i m l h in past b h (all_inner f b w)

-- the rows r' after k rounds
pub record Known (r r' : List (List ℕ)) (n k : ℕ) : Type 0 where
  pub same_length : length r' ≡ length r
  pub rounds : k ≤ n
  pub sound : (i j : ℕ) → i < n → has_bit r' i j ≡ true → Inner r k i j
  pub complete : (i j : ℕ) → i < n → Inner r k i j → has_bit r' i j ≡ true

pub known_none : (r : List (List ℕ)) (n : ℕ) → Known r r n 0
known_none r n = record { same_length = refl; rounds = omega arith; sound = λ i j l h. straight h; complete = λ i j l w. one_step r w }

-- what a joined bit was
joined_true : (a b c : Bool) → (a || b && c) ≡ true → (a ≡ true) ⊎ ((b ≡ true) × (c ≡ true))
joined_true true b c e = inl refl
joined_true false true c e = inr (refl, e)
joined_true false false c e = absurd (false≢true e)

true_joined : (a b c : Bool) → (a ≡ true) ⊎ ((b ≡ true) × (c ≡ true)) → (a || b && c) ≡ true
true_joined true b c h = refl
true_joined false b c (inl e) = absurd (false≢true e)
true_joined false true c (inr e) = e.1
true_joined false false c (inr e) = absurd (false≢true e.0)

-- one more round
pub known_more : {r r' r'' : List (List ℕ)} {n k : ℕ} → Known r r' n k → k < n → JoinedAll r' r'' n k → Known r r'' n (k + 1)
known_more {r} {r'} {r''} {n} {k} K l J = record {
  same_length = J.same_length ∙ K.same_length;
  rounds = omega arith;
  sound = λ i j b h. found i j b (joined_true (has_bit r' i j) (has_bit r' i k) (has_bit r' k j) (sym (J.joined i j b) ∙ h));
  complete = λ i j b w. J.joined i j b ∙ true_joined (has_bit r' i j) (has_bit r' i k) (has_bit r' k j) (kept i j b (part r w));
}
  where
    found : (i j : ℕ) → i < n → (has_bit r' i j ≡ true) ⊎ ((has_bit r' i k ≡ true) × (has_bit r' k j ≡ true)) → Inner r (k + 1) i j
    found i j b (inl h) = wider r (K.sound i j b h)
    found i j b (inr h) = meet r (K.sound i k b h.0) (K.sound k j l h.1)

    kept : (i j : ℕ) → i < n → Inner r k i j ⊎ (Inner r k i k × Inner r k k j) → (has_bit r' i j ≡ true) ⊎ ((has_bit r' i k ≡ true) × (has_bit r' k j ≡ true))
    kept i j b (inl w) = inl (K.complete i j b w)
    kept i j b (inr w) = inr (K.complete i k b w.0, K.complete k j l w.1)

-- after n rounds the rows are closed
pub known_all : {r r' : List (List ℕ)} {n k : ℕ} → Fits r n → Known r r' n k → n ≤ k → Closed r r' n
known_all {r} {r'} {n} {k} f K l = record {
  same_length = K.same_length;
  sound = λ i j b h. way r (K.sound i j b h);
  complete = λ i j b w. K.complete i j b (subst (λ (m : ℕ). Inner r m i j) e (all_inner r f b w));
}
  where
    e : n ≡ k
    e = let b = K.rounds in omega arith
