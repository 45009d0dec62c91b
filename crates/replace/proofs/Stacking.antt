-- References put on the pending list, the first token last.
-- Assumes nothing.
use Prim.Native.Nat.{ℕ, zero, suc, max, ◌+◌, ◌-◌, ◌<◌, ◌≤◌}
use mathlib.Core.List.{List, [], ◌∷◌, ◌++◌}
use mathlib.Core.Path.{◌≡◌, refl, ap, ◌∙◌}
use native.Mathlib.Numerals.{add-one}
use native.Mathlib.Omega.{arith}
use lib.ListN.{length, take, drop, get_or, set, length-set, drop_of_length-le}
use lib.Seq.{drop-cons, get_or-take, get_or-set_same, get_or-set_other, length-take-le}
use Rattle.sets.specs.Sets.{members}
use Rattle.pending.specs.Pending.{Pending}
use Rattle.pending.specs.References.{pending_by, pend_of, pendings, stacked, blank}
use Rattle.replace.specs.Replacing.{deepest}

-- the first n references alone make the list of n
pub stacked_set : (s b : List ℕ) (l : List (List ℕ)) (n i : ℕ) (v : List ℕ) → n ≤ i → stacked s b (set l i v) n ≡ stacked s b l n
unfolding stacked
stacked_set s b l zero i v h = refl
stacked_set s b l (suc n) i v h =
    let e : get_or (set l i v) n blank ≡ get_or l n blank = get_or-set_other l i n v blank (λ z. omega arith) in
    let r : stacked s b (set l i v) n ≡ stacked s b l n = stacked_set s b l n i v (omega arith) in
    rw (e, r)

-- those of o from k to before m are put on the first n of l₀, which is l then; d: the largest of their sets
pub record Onto (l₀ l : List (List ℕ)) (n : ℕ) (o : List (List ℕ)) (m k i d : ℕ) : Type 0 where
  pub same_length : length l ≡ length l₀
  pub count : i + k ≡ n + m
  pub left : k ≤ m
  pub tokens : (s b : List ℕ) → stacked s b l i ≡ pendings s b (drop k (take m o)) ++ stacked s b l₀ n
  pub depth : (s b : List ℕ) → d ≡ deepest (pendings s b (drop k (take m o)))

module _ {l₀ : List (List ℕ)} {n : ℕ} {o : List (List ℕ)} {m : ℕ} where
  pub onto_none : m ≤ length o → Onto l₀ l₀ n o m (m - 0) (n + 0) 0
  unfolding pendings deepest
  onto_none h =
      let e : drop m (take m o) ≡ [] = drop_of_length-le (take m o) {i = m} (omega (arith, length-take-le m o h)) in
      let x : m - 0 ≡ m = omega arith in
      let y : n + 0 ≡ n = omega arith in
      rw (x, y) (record { same_length = refl; count = refl; left = omega arith; tokens = λ s b. rw e; depth = λ s b. rw e })

  onto_step : {l : List (List ℕ)} {k i d : ℕ} → Onto l₀ l n o m k i d → n + m ≤ length l₀ → m ≤ length o → 0 < k
      → (c e : ℕ) → c ≡ length (members (pend_of (get_or o (k - 1) [])).set) → e ≡ max c d
      → Onto l₀ (set l i (get_or o (k - 1) [])) n o m (k - 1) (i + 1) e
  unfolding pendings deepest stacked pending_by
  onto_step {l} {k} {i} {d} h f g z c e p q =
      let v = get_or o (k - 1) [] in
      let w : i < length l = omega (arith, h.same_length, h.count, h.left) in
      let x : k - 1 < length (take m o) = omega (arith, length-take-le m o g, h.left) in
      let y : suc (k - 1) ≡ k = omega arith in
      let a : drop (k - 1) (take m o) ≡ v ∷ drop k (take m o) =
      drop-cons (take m o) (k - 1) [] x
      ∙ ap (λ (u : List ℕ). u ∷ drop (suc (k - 1)) (take m o)) (get_or-take m o (k - 1) [] (omega (arith, h.left)))
      ∙ ap (λ (j : ℕ). v ∷ drop j (take m o)) y in
      record {
        same_length = length-set l i v ∙ h.same_length;
        count = omega (arith, h.count);
        left = omega (arith, h.left);
        tokens = λ s b.
            rw (add-one, a, get_or-set_same l i v blank w, stacked_set s b l i i v (omega arith))
            (ap (λ (r : List Pending). pending_by s b (pend_of v) ∷ r) (h.tokens s b));
        depth = λ s b. rw (a, q, p) (ap (λ (j : ℕ). max (length (members (pend_of v).set)) j) (h.depth s b));
      }

  pub onto_more : {l : List (List ℕ)} {i d : ℕ} → Onto l₀ l n o m (m - i) (n + i) d → n + m ≤ length l₀ → m ≤ length o → i < m
      → (c e : ℕ) → c ≡ length (members (pend_of (get_or o (m - 1 - i) [])).set) → e ≡ max c d
      → Onto l₀ (set l (n + i) (get_or o (m - 1 - i) [])) n o m (m - (i + 1)) (n + (i + 1)) e
  onto_more {l} {i} {d} h f g z c e p q =
      let x : m - 1 - i ≡ m - i - 1 = omega arith in
      let y : m - (i + 1) ≡ m - i - 1 = omega arith in
      let v : n + (i + 1) ≡ n + i + 1 = omega arith in
      rw (x, y, v) (onto_step h f g (omega arith) c e (p ∙ ap (λ (j : ℕ). length (members (pend_of (get_or o j [])).set)) x) q)
