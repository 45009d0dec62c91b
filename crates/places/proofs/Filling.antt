-- Counting newlines, copying a name, and the digits of a number behind one another.
-- Assumes nothing.
use Prim.Native.Nat.{ℕ, zero, suc, ◌+◌, ◌-◌, ◌/◌, ◌%◌, ◌<◌, ◌≤◌}
use mathlib.Core.Bool.{Bool, true, false, cond}
use mathlib.Core.List.{List, [], ◌∷◌, ◌++◌}
use mathlib.Core.Path.{◌≡◌, refl, ap, sym, ◌∙◌}
use native.Mathlib.Numerals.{add-one}
use native.Mathlib.Omega.{arith}
use lib.ListN.{length, take, set, length-set}
use lib.Seq.{take-suc-set}
use lib.Dec.{eqb}
use borrow.Author.Tests.{lt-ltb, le-ltb}
use borrow.Rule.Slice.PartMut.{put_mid, mid_of, mid_len, same_len_mid}
use Rattle.std.specs.List.{count_by}
use Rattle.std.proofs.lemmas.List.Recursion.{is_count_by}
use Rattle.std.proofs.lemmas.Grind.{take-set_at}
use Rattle.std.proofs.lemmas.Slice.{take-put_mid}
use Rattle.places.specs.Places.{newlines, quoted, decimal}

-- ---- counting newlines

one_more : (t : Bool) (r : ℕ) → cond t (suc r) r ≡ cond t (1 + r) r
one_more true r = omega arith
one_more false r = refl

pub newlines_counted : (w : List ℕ) → newlines w ≡ count_by (λ b. eqb b 10) w
unfolding newlines
newlines_counted = is_count_by newlines (λ b. eqb b 10) refl (λ b w. one_more (eqb b 10) (newlines w))

-- ---- copying a name between two quotes

pub quoted_by : (w out x : List ℕ) (n : ℕ) → length w + 2 ≤ length out → x ≡ w → n ≡ length w
    → take (n + 2) (set (put_mid 1 (n + 1 - 1) (set out 0 34) x) (n + 1) 34) ≡ quoted w
quoted_by w out x n h e q =
    let o : List ℕ = set out 0 34 in
    let l : length o ≡ length out = length-set out 0 34 in
    let i : length x ≡ n = ap length e ∙ sym q in
    let m : length x ≡ length (mid_of 1 (n + 1 - 1) o) = omega (arith, mid_len 1 (n + 1) o (omega arith)) in
    let size : length (put_mid 1 (n + 1 - 1) o x) ≡ length o = same_len_mid 1 (n + 1 - 1) o x m in
    take-set_at (put_mid 1 (n + 1 - 1) o x) (n + 1) (n + 2) 34 (omega arith) (omega arith)
    ∙ ap (λ s. s ++ (34 ∷ [])) (take-put_mid 1 (n + 1 - 1) o x (n + 1) (omega arith) (omega arith) ∙ ap (λ s. s ++ x) (take-set_at out 0 1 34 refl (omega arith)))
    ∙ rw e

-- ---- digits

pub no_digit : (k n : ℕ) → k ≡ 0 → [] ≡ decimal k n
unfolding decimal
no_digit k n e = rw e

pub one_digit : (k n : ℕ) (out : List ℕ) → k ≤ length out → (k ≡ 0 → ⊥) → n < 10 → (take 1 (set out 0 (48 + n)) ≡ decimal k n) × (1 ≤ k)
unfolding decimal
one_digit zero n out l h m = absurd (h refl)
one_digit (suc k) n out l h m = (take-suc-set out 0 (48 + n) (omega arith) ∙ rw (lt-ltb _ _ m), omega arith)

pub more_digits : (k n : ℕ) (out : List ℕ) (m : ℕ) → k ≤ length out → (k ≡ 0 → ⊥) → 10 ≤ n → (take m out ≡ decimal (k - 1) (n / 10)) × (m ≤ k - 1)
    → (take (m + 1) (set out m (48 + n % 10)) ≡ decimal k n) × (m + 1 ≤ k)
unfolding decimal
more_digits zero n out m l h p r = absurd (h refl)
more_digits (suc k) n out m l h p r =
    let q : suc k - 1 ≡ k = omega arith in
    let f : take m out ≡ decimal k (n / 10) = r.0 ∙ ap (λ (j : ℕ). decimal j (n / 10)) q in
    let i : m < length out = omega (arith, r.1) in
    (rw (add-one m, take-suc-set out m _ i, f, le-ltb _ _ p), omega (arith, r.1))
