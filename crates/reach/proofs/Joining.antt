-- Rows joined with row k: one of them, and those before i.
-- Assumes nothing.
use mathlib.Core.Path.{◌≡◌, refl, ap, ap₂, sym, ◌∙◌}
use mathlib.Core.Bool.{Bool, true, false, ◌||◌, ◌&&◌}
use mathlib.Core.List.{List, [], ◌∷◌}
use Prim.Native.Nat.{ℕ, zero, suc, ◌+◌, ◌<◌, ◌≤◌}
use native.Mathlib.Omega.{arith}
use lib.Dec.{eqb, ltb}
use lib.ListN.{length, get_or, set, length-set}
use lib.Seq.{get_or-set_same, get_or-set_other}
use borrow.Author.Tests.{eqb-true, eqb-false, ltb-true, ltb-false}
use Rattle.sets.specs.Sets.{elem, members}
use Rattle.sets.specs.declared.MacroSet.{MacroSet}
use Rattle.reach.specs.Reaching.{set_of, row_of, has_bit, Joined, JoinedAll}

-- a row as a set
abbrev pub row_at : List (List ℕ) → ℕ → MacroSet
row_at r i = set_of (get_or r i (0 ∷ 0 ∷ 0 ∷ 0 ∷ []))

-- the code reads a row with [] as the default: the same set
pub row_read : (r : List (List ℕ)) (i : ℕ) → set_of (get_or r i []) ≡ row_at r i
row_read [] i = refl
row_read (x ∷ r) zero = refl
row_read (x ∷ r) (suc i) = row_read r i

-- k is in row i, which becomes u, the two rows together
pub join_taken : (r : List (List ℕ)) (i k : ℕ) (u : MacroSet) (v : List ℕ) → i < length r → elem k (members (row_at r i)) ≡ true
    → ((j : ℕ) → elem j (members u) ≡ (elem j (members (row_at r i)) || elem j (members (row_at r k)))) → v ≡ row_of u → Joined r (set r i v) i k
unfolding has_bit
join_taken r i k u v l h e q = record {
  same_length = length-set r i v;
  joined = λ j. ap (λ (w : List ℕ). elem j (members (set_of w))) (get_or-set_same r i v (0 ∷ 0 ∷ 0 ∷ 0 ∷ []) l ∙ q) ∙ e j
      ∙ ap (λ (t : Bool). elem j (members (row_at r i)) || (t && elem j (members (row_at r k)))) (sym h);
  others = λ a j n. ap (λ (w : List ℕ). elem j (members (set_of w))) (get_or-set_other r i a v (0 ∷ 0 ∷ 0 ∷ 0 ∷ []) n);
}

or_false_and : (a b : Bool) → a ≡ (a || (false && b))
or_false_and true b = refl
or_false_and false b = refl

-- k is not in row i
pub join_left : (r : List (List ℕ)) (i k : ℕ) → elem k (members (row_at r i)) ≡ false → Joined r r i k
unfolding has_bit
join_left r i k h = record {
  same_length = refl;
  joined = λ j. or_false_and (elem j (members (row_at r i))) (elem j (members (row_at r k)))
      ∙ ap (λ (t : Bool). elem j (members (row_at r i)) || (t && elem j (members (row_at r k)))) (sym h);
  others = λ a j n. refl;
}

-- the rows before i are joined with row k, and the others as they were
pub record Joining (r r' : List (List ℕ)) (n i k : ℕ) : Type 0 where
  pub same_length : length r' ≡ length r
  pub turns : i ≤ n
  pub joined : (a j : ℕ) → a < i → has_bit r' a j ≡ (has_bit r a j || (has_bit r a k && has_bit r k j))
  pub waiting : (a j : ℕ) → i ≤ a → has_bit r' a j ≡ has_bit r a j

pub joining_none : (r : List (List ℕ)) (n k : ℕ) → Joining r r n 0 k
joining_none r n k = record { same_length = refl; turns = omega arith; joined = λ a j h. absurd (omega arith); waiting = λ a j h. refl }

or_and_self : (a b : Bool) → (a || (b && a)) ≡ a
or_and_self true b = refl
or_and_self false true = refl
or_and_self false false = refl

-- row k keeps its bits
same_row : {r r' : List (List ℕ)} {n i k : ℕ} → Joining r r' n i k → (j : ℕ) → has_bit r' k j ≡ has_bit r k j
same_row {r} {r'} {n} {i} {k} J j = go (ltb k i) refl
  where
    go : (t : Bool) → ltb k i ≡ t → has_bit r' k j ≡ has_bit r k j
    go true e = J.joined k j (ltb-true k i e) ∙ or_and_self (has_bit r k j) (has_bit r k k)
    go false e = J.waiting k j (ltb-false k i e)

-- one more row
pub joining_more : {r r' r'' : List (List ℕ)} {n i k : ℕ} → Joining r r' n i k → i < n → Joined r' r'' i k → Joining r r'' n (i + 1) k
joining_more {r} {r'} {r''} {n} {i} {k} J l N = record {
  same_length = N.same_length ∙ J.same_length;
  turns = omega arith;
  joined = λ a j h. go a j h (eqb a i) refl;
  waiting = λ a j h. N.others a j (λ e. omega arith) ∙ J.waiting a j (omega arith);
}
  where
    go : (a j : ℕ) → a < i + 1 → (t : Bool) → eqb a i ≡ t → has_bit r'' a j ≡ (has_bit r a j || (has_bit r a k && has_bit r k j))
    go a j h true e =
        let q : a ≡ i = eqb-true a i e in
        rw q (N.joined j ∙ ap₂ (λ (x y : Bool). x || (y && has_bit r' k j)) (J.waiting i j (omega arith)) (J.waiting i k (omega arith))
        ∙ ap (λ (x : Bool). has_bit r i j || (has_bit r i k && x)) (same_row J j))
    go a j h false e = let q : (a ≡ i → ⊥) = eqb-false a i e in N.others a j q ∙ J.joined a j (omega arith)

-- all n
pub joining_all : {r r' : List (List ℕ)} {n i k : ℕ} → Joining r r' n i k → n ≤ i → JoinedAll r r' n k
joining_all J l = record { same_length = J.same_length; joined = λ a j h. J.joined a j (omega arith) }
