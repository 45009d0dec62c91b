-- How the three tables lie: word k stands in the bytes from start k to before the next start.
-- Assumes nothing.
use mathlib.Core.Path.{◌≡◌, refl, ap, ◌∙◌}
use mathlib.Core.List.{List, [], ◌∷◌, ◌++◌, append_assoc}
use Prim.Native.Nat.{ℕ, zero, suc, ◌+◌, ◌-◌, ◌<◌, ◌≤◌}
use native.Mathlib.Nat.{not-suc-le-zero, le_of_suc-le-suc}
use native.Mathlib.Numerals.{add-one}
use native.Mathlib.Omega.{arith}
use lib.ListN.{length, get_or, length-append}
use lib.Seq.{take-append_seam, drop-append_seam}
use Rattle.text.specs.Bytes.{part}
use Rattle.keywords.specs.Keywords.{Keyword, kw, word, first, keywords, word_at}
use Rattle.keywords.specs.Tables.{flat, starts_from, firsts, keyword_bytes, keyword_starts, keyword_firsts}

-- word k of a list, and the version that first reserves it
abbrev pub word_of : List Keyword → ℕ → List ℕ
word_of ks k = word (get_or ks k (kw "" 0))

abbrev pub first_of : List Keyword → ℕ → ℕ
first_of ks k = first (get_or ks k (kw "" 0))

-- the word w stands in the bytes b from a to before e
pub record Lies (b : List ℕ) (a e : ℕ) (w : List ℕ) : Type 0 where
  pub ends : e ≡ a + length w
  pub inside : e ≤ length b
  pub its_part : part b a e ≡ w

first_start : (a : ℕ) (ks : List Keyword) → get_or (starts_from a ks) 0 0 ≡ a
unfolding starts_from
first_start a [] = refl
first_start a (k ∷ ks) = refl

length_starts : (a : ℕ) (ks : List Keyword) → length (starts_from a ks) ≡ suc (length ks)
unfolding starts_from
length_starts a [] = refl
length_starts a (k ∷ ks) = ap suc (length_starts (a + length (word k)) ks)

-- the bytes of w stand behind p
part_behind : (p w r : List ℕ) → part (p ++ (w ++ r)) (length p) (length p + length w) ≡ w
part_behind p w r =
    let q : length p + length w - length p ≡ length w = omega arith in
    rw (q, drop-append_seam, take-append_seam)

-- of the words ks that stand behind the bytes p, word k
lies_behind : (p : List ℕ) (ks : List Keyword) (k : ℕ) → k < length ks
    → Lies (p ++ flat ks) (get_or (starts_from (length p) ks) k 0) (get_or (starts_from (length p) ks) (suc k) 0) (word_of ks k)
unfolding flat starts_from
lies_behind p [] k h = absurd (not-suc-le-zero h)
lies_behind p (x ∷ ks) zero h =
    rw (first_start (length p + length (word x)) ks)
    (record { ends = refl; inside = rw (length-append, length-append) (omega arith); its_part = part_behind p (word x) (flat ks) })
lies_behind p (x ∷ ks) (suc k) h = rw (append_assoc, length-append) at (lies_behind (p ++ word x) ks k (le_of_suc-le-suc h))

-- word k of the tables
pub lies : {b s : List ℕ} {k : ℕ} → (b ≡ keyword_bytes) × (s ≡ keyword_starts) × (k < 221)
    → Lies b (get_or s k 0) (get_or s (k + 1) 0) (word_at k)
unfolding keyword_bytes keyword_starts keywords word_at
lies {b} {s} {k} (p, q, h) = rw (p, q, add-one) (lies_behind [] keywords k h)

pub starts_number : {s : List ℕ} → s ≡ keyword_starts → length s ≡ 222
unfolding keyword_starts keywords
starts_number p = ap length p ∙ length_starts 0 keywords

-- the same of the first versions
first-of : (ks : List Keyword) (k : ℕ) → get_or (firsts ks) k 0 ≡ first_of ks k
unfolding firsts
first-of [] k = refl
first-of (x ∷ ks) zero = refl
first-of (x ∷ ks) (suc k) = first-of ks k

length_firsts : (ks : List Keyword) → length (firsts ks) ≡ length ks
unfolding firsts
length_firsts [] = refl
length_firsts (x ∷ ks) = ap suc (length_firsts ks)

pub first_at : (k : ℕ) → get_or keyword_firsts k 0 ≡ first_of keywords k
unfolding keyword_firsts
first_at k = first-of keywords k

pub firsts_number : {f : List ℕ} → f ≡ keyword_firsts → length f ≡ 221
unfolding keyword_firsts keywords
firsts_number p = ap length p ∙ length_firsts keywords
