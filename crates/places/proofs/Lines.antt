-- Laws of newlines, lines, and the lengths of what the two `__` words write.
-- Assumes nothing.
use Prim.Native.Nat.{ℕ, zero, suc, ◌+◌, ◌-◌, ◌/◌, ◌≤◌}
use mathlib.Core.Bool.{Bool, true, false, cond}
use mathlib.Core.List.{List, [], ◌∷◌, ◌++◌}
use mathlib.Core.Path.{◌≡◌, refl, ap, ◌∙◌}
use native.Mathlib.Omega.{arith}
use lib.Dec.{eqb, ltb}
use lib.ListN.{length, take, length-append, length-take}
use lib.Seq.{take-add}
use Rattle.text.specs.Bytes.{part}
use Rattle.places.specs.Places.{newlines, line_at, quoted, decimal}

-- ---- newlines

pub newlines_cons : (b : ℕ) (bs : List ℕ) → newlines (b ∷ bs) ≡ cond (eqb b 10) (suc (newlines bs)) (newlines bs)
unfolding newlines
newlines_cons b bs = refl

one_more : (t : Bool) (m n k : ℕ) → m ≡ n + k → cond t (suc m) m ≡ cond t (suc n) n + k
one_more true m n k h = omega arith
one_more false m n k h = omega arith

pub newlines_append : (xs ys : List ℕ) → newlines (xs ++ ys) ≡ newlines xs + newlines ys
unfolding newlines
newlines_append [] ys = omega arith
newlines_append (x ∷ xs) ys = one_more (eqb x 10) _ _ _ (newlines_append xs ys)

at_most : (t : Bool) (n k : ℕ) → n ≤ k → cond t (suc n) n ≤ suc k
at_most true n k h = omega arith
at_most false n k h = omega arith

pub newlines_length : (w : List ℕ) → newlines w ≤ length w
unfolding newlines
newlines_length [] = omega arith
newlines_length (b ∷ bs) = at_most (eqb b 10) _ _ (newlines_length bs)

-- ---- lines

pub line_first : (s : List ℕ) → line_at s 0 ≡ 1
unfolding line_at newlines
line_first s = refl

pub line_past : (s : List ℕ) (i e : ℕ) → i ≤ e → e ≤ length s → line_at s e ≡ line_at s i + newlines (part s i e)
unfolding line_at
line_past s i e h l =
    let q : e ≡ i + (e - i) = omega arith in
    let r : newlines (take e s) ≡ newlines (take i s) + newlines (part s i e) = ap (λ (k : ℕ). newlines (take k s)) q ∙ ap newlines (take-add i (e - i) s) ∙ newlines_append (take i s) (part s i e) in
    omega arith

pub line_bound : (s : List ℕ) (i : ℕ) → line_at s i ≤ suc (length s)
unfolding line_at
line_bound s i = omega (arith, newlines_length (take i s), length-take i s)

pub line_counted : (s : List ℕ) (i : ℕ) (w : List ℕ) (n : ℕ) → w ≡ part s 0 i → n ≡ newlines w → 1 + n ≡ line_at s i
unfolding line_at
line_counted s i w n e q =
    let z : i - 0 ≡ i = omega arith in
    let r : newlines w ≡ newlines (take i s) = ap newlines e ∙ ap (λ (k : ℕ). newlines (take k s)) z in
    omega arith

-- ---- the lengths of what the two words write

last_digit : (t : Bool) (d e : ℕ) (r : List ℕ) (k : ℕ) → length r ≤ k → length (cond t (d ∷ []) (r ++ (e ∷ []))) ≤ suc k
last_digit true d e r k h = omega arith
last_digit false d e r k h = rw (length-append) (omega arith)

pub decimal_length : (k n : ℕ) → length (decimal k n) ≤ k
unfolding decimal
decimal_length zero n = omega arith
decimal_length (suc k) n = last_digit (ltb n 10) _ _ (decimal k (n / 10)) k (decimal_length k (n / 10))

pub quoted_length : (w : List ℕ) → length (quoted w) ≡ length w + 2
quoted_length w = rw (length-append) (omega arith)
