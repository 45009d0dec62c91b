-- Parts of a text, one after the other, and whether a byte stands in them.
-- Assumes nothing.
use Prim.Native.Nat.{ℕ, ◌+◌, ◌-◌, ◌<◌, ◌≤◌}
use mathlib.Core.Bool.{false, ◌||◌}
use mathlib.Core.List.{List, [], ◌∷◌, ◌++◌}
use mathlib.Core.Path.{◌≡◌, ap, ◌∙◌}
use native.Mathlib.Omega.{arith}
use lib.Dec.{eqb}
use lib.ListN.{length, get_or, drop}
use lib.Seq.{drop-drop, get_or-drop, take-add}
use Rattle.text.specs.Bytes.{holds, part}
use Rattle.text.proofs.Matching.{part_more, part_none}
use Rattle.genuine.proofs.Tests.{or_left, or_right}

pub head_at : (s : List ℕ) (i : ℕ) → get_or (drop i s) 0 0 ≡ get_or s i 0
head_at s i =
    let q : i + 0 ≡ i = omega arith in
    get_or-drop i s 0 0 ∙ ap (λ (n : ℕ). get_or s n 0) q

pub part_join : (s : List ℕ) (i e n : ℕ) → i ≤ e → e ≤ n → part s i n ≡ part s i e ++ part s e n
part_join s i e n h k =
    let q : n - i ≡ e - i + (n - e) = omega arith in
    let r : i + (e - i) ≡ e = omega arith in
    rw (q, take-add (e - i) (n - e) (drop i s), drop-drop (e - i) i s, r)

pub part_one : (s : List ℕ) (i : ℕ) → i < length s → part s i (i + 1) ≡ get_or s i 0 ∷ []
part_one s i l = part_more s i (i + 1) (omega arith) l ∙ ap (λ (r : List ℕ). get_or s i 0 ∷ r) (part_none s (i + 1) (i + 1) (omega arith))

pub holds_parted : (w : List ℕ) (i e : ℕ) → i < length w → i + 1 ≤ e → holds 10 (part w i e) ≡ false → (eqb (get_or w i 0) 10 || holds 10 (part w (i + 1) e)) ≡ false
unfolding holds
holds_parted w i e l h q = rw (part_more w i e (omega arith) l) at q

pub holds_append : (b : ℕ) (xs ys : List ℕ) → holds b xs ≡ false → holds b ys ≡ false → holds b (xs ++ ys) ≡ false
unfolding holds
holds_append b [] ys p q = q
holds_append b (x ∷ xs) ys p q =
    rw (or_left (eqb x b) (holds b xs) p) (holds_append b xs ys (or_right (eqb x b) (holds b xs) p) q)
