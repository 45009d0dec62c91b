-- All zero, and all blank: as equal elements, and what the test says at them.
-- Assumes nothing.
use mathlib.Core.Path.{◌≡◌, refl, ◌∙◌}
use mathlib.Core.Bool.{Bool, true, false, cond, ◌&&◌}
use mathlib.Core.List.{List, [], ◌∷◌}
use Prim.Native.Nat.{ℕ, zero, suc}
use native.Mathlib.Omega.{arith}
use borrow.Author.Tests.{eqb-true}
use lib.Dec.{eqb}
use lib.ListN.{length, drop, get_or, replicate}
use Rattle.lex.proofs.Tests.{and_left, and_right}
use Rattle.packed.specs.Records.{blank_record, record_of}
use Rattle.genuine.specs.Layout.{all_zero, is_four, is_blank, all_blank, ends_there, left_from}
use Rattle.std.proofs.Common.{Some, None}

pub zeros : (k : ℕ) → all_zero (replicate k 0) ≡ true
unfolding all_zero
zeros zero = refl
zeros (suc k) = zeros k

pub all-zero : (l : List ℕ) → all_zero l ≡ true → l ≡ replicate (length l) 0
unfolding all_zero
all-zero [] h = refl
all-zero (x ∷ l) h =
    let e : x ≡ 0 = eqb-true x 0 (and_left (eqb x 0) (all_zero l) h) in
    let i : l ≡ replicate (length l) 0 = all-zero l (and_right (eqb x 0) (all_zero l) h) in
    cc

-- four numbers
pub four : (v : List ℕ) → length v ≡ 4 → v ≡ get_or v 0 0 ∷ get_or v 1 0 ∷ get_or v 2 0 ∷ get_or v 3 0 ∷ []
four [] e = absurd (omega arith)
four (a ∷ []) e = absurd (omega arith)
four (a ∷ b ∷ []) e = absurd (omega arith)
four (a ∷ b ∷ c ∷ []) e = absurd (omega arith)
four (a ∷ b ∷ c ∷ d ∷ []) e = refl
four (a ∷ b ∷ c ∷ d ∷ f ∷ v) e = absurd (omega arith)

blank_row : (v : List ℕ) → (is_four v && is_blank (record_of v)) ≡ true → v ≡ blank_record
blank_row v h =
    let l : length v ≡ 4 = eqb-true (length v) 4 (search and_left) in
    let e₀ : get_or v 0 0 ≡ 0 = eqb-true (get_or v 0 0) 0 (search (and_left, and_right)) in
    let e₁ : get_or v 1 0 ≡ 0 = eqb-true (get_or v 1 0) 0 (search (and_left, and_right)) in
    let e₂ : get_or v 2 0 ≡ 0 = eqb-true (get_or v 2 0) 0 (search (and_left, and_right)) in
    let e₃ : get_or v 3 0 ≡ 0 = eqb-true (get_or v 3 0) 0 (search and_right) in
    four v l ∙ rw (e₀, e₁, e₂, e₃)

pub blanks : (k : ℕ) → all_blank (replicate k blank_record) ≡ true
unfolding all_blank
blanks zero = refl
blanks (suc k) = blanks k

pub all-blank : (l : List (List ℕ)) → all_blank l ≡ true → l ≡ replicate (length l) blank_record
unfolding all_blank
all-blank [] h = refl
all-blank (v ∷ l) h =
    let e : v ≡ blank_record = blank_row v (and_left (is_four v && is_blank (record_of v)) (all_blank l) h) in
    let i : l ≡ replicate (length l) blank_record = all-blank l (and_right (is_four v && is_blank (record_of v)) (all_blank l) h) in
    cc

-- where nothing stands any more
pub left_none : (n : ℕ) (b : List ℕ) (a : ℕ) (w : List ℕ) (vs : List (List ℕ)) → all_blank vs ≡ true → all_zero (drop a b) ≡ true → left_from n b a w vs ≡ Some n
unfolding left_from ends_there all_blank
left_none n b a w [] h z = rw z
left_none n b a w (v ∷ vs) h z =
    let e : (is_four v && is_blank (record_of v)) ≡ true = and_left (is_four v && is_blank (record_of v)) (all_blank vs) h in
    let f : all_blank vs ≡ true = and_right (is_four v && is_blank (record_of v)) (all_blank vs) h in
    rw (e, f, z)

pub record Ended (n : ℕ) (b : List ℕ) (a : ℕ) (vs : List (List ℕ)) (k : ℕ) : Type 0 where
  pub blank : all_blank vs ≡ true
  pub zero_on : all_zero (drop a b) ≡ true
  pub count : k ≡ n

pub ended : (n : ℕ) (b : List ℕ) (a : ℕ) (vs : List (List ℕ)) (k : ℕ) → ends_there n b a vs ≡ Some k → Ended n b a vs k
unfolding ends_there
ended n b a vs k = go (all_blank vs) (all_zero (drop a b)) refl refl
  where
    go : (t u : Bool) → all_blank vs ≡ t → all_zero (drop a b) ≡ u → cond (t && u) (Some n) None ≡ Some k → Ended n b a vs k
    go true true p q h = record { blank = p; zero_on = q; count = cc }
    go true false p q h = record { blank = p; zero_on = cc; count = cc }
    go false u p q h = record { blank = cc; zero_on = cc; count = cc }
