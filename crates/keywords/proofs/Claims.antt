-- What holds of the table and of the answers by it. Versions: 0 is 1364-1995, 1 is 1364-2001, 2 is 1364-2005, 3 is 1800-2005.
-- Assumes nothing.
use mathlib.Core.Path.{◌≡◌, refl}
use mathlib.Core.Bool.{Bool, true, false, cond, false≢true}
use mathlib.Core.List.{List, [], ◌∷◌, map}
use Prim.Native.Nat.{ℕ, suc, ◌+◌, ◌<◌, ◌≤◌}
use Prim.Native.String.{String}
use native.Mathlib.Nat.{le_trans}
use native.Mathlib.Omega.{arith}
use lib.Dec.{leb}
use lib.ListN.{length, replicate}
use borrow.Author.Tests.{leb-true, le-leb}
use Rattle.text.specs.Bytes.{bytes, same}
use Rattle.text.specs.Order.{order_of}
use Rattle.std.specs.declared.cmp.Ordering.TheVariants.{Less}
use Rattle.text.proofs.Matching.{same_equal}
use Rattle.keywords.specs.Keywords.{Keyword, word, first, keywords, word_at, reserved_in, is_reserved}
use Rattle.keywords.proofs.Places.{word_of, first_of}
use Rattle.keywords.proofs.Ordered.{table_less}

pub table_length : length keywords ≡ 221
unfolding keywords
table_length = refl

-- the words ascend in byte order, so none stands twice
pub words_ascend : (i k : ℕ) → i < k → k < 221 → order_of (word_at i) (word_at k) ≡ Less
words_ascend = table_less

-- how many words of a list version v reserves
unfoldable pub count_in : ℕ → List Keyword → ℕ
count_in v [] = 0
count_in v (k ∷ ks) = cond (is_reserved (word k) v) 1 0 + count_in v ks

pub counts : map (λ v. count_in v keywords) (0 ∷ 1 ∷ 2 ∷ 3 ∷ []) ≡ 102 ∷ 123 ∷ 124 ∷ 221 ∷ []
unfolding count_in is_reserved reserved_in keywords bytes same
counts = refl

-- a word that a version reserves is reserved in each later one
grows : (ks : List Keyword) (w : List ℕ) (u v : ℕ) → u ≤ v → reserved_in ks w u ≡ true → reserved_in ks w v ≡ true
unfolding reserved_in
grows [] w u v h e = e
grows (k ∷ ks) w u v h e = go (same w (word k)) (grows ks w u v h) e
  where
    go : (t : Bool) → (reserved_in ks w u ≡ true → reserved_in ks w v ≡ true) → cond t (leb (first k) u) (reserved_in ks w u) ≡ true
        → cond t (leb (first k) v) (reserved_in ks w v) ≡ true
    go true ih p = le-leb (first k) v (le_trans (leb-true (first k) u p) h)
    go false ih p = ih p

pub stays_reserved : (w : List ℕ) (u v : ℕ) → u ≤ v → is_reserved w u ≡ true → is_reserved w v ≡ true
unfolding is_reserved
stays_reserved w u v h e = grows keywords w u v h e

-- a reserved word stands in the list, with a first version that is not later
pub record Listed (ks : List Keyword) (w : List ℕ) (v : ℕ) : Type 0 where
  pub place : ℕ
  pub place_in : place < length ks
  pub its_word : w ≡ word_of ks place
  pub its_first : first_of ks place ≤ v

listed : (ks : List Keyword) (w : List ℕ) (v : ℕ) → reserved_in ks w v ≡ true → Listed ks w v
unfolding reserved_in
listed [] w v e = absurd (false≢true e)
listed (k ∷ ks) w v e = go (same w (word k)) refl (listed ks w v) e
  where
    go : (t : Bool) → same w (word k) ≡ t → (reserved_in ks w v ≡ true → Listed ks w v) → cond t (leb (first k) v) (reserved_in ks w v) ≡ true → Listed (k ∷ ks) w v
    go true q ih p = record { place = 0; place_in = omega arith; its_word = same_equal w (word k) q; its_first = leb-true (first k) v p }
    go false q ih p =
        let r = ih p in
        record { place = suc r.place; place_in = let l = r.place_in in omega arith; its_word = r.its_word; its_first = r.its_first }

pub reserved_listed : (w : List ℕ) (v : ℕ) → is_reserved w v ≡ true → Listed keywords w v
unfolding is_reserved
reserved_listed w v e = listed keywords w v e

pub logic_1800_2005 : is_reserved (bytes "logic") 3 ≡ true
unfolding is_reserved reserved_in keywords bytes same
logic_1800_2005 = refl

pub logic_1364_2001 : is_reserved (bytes "logic") 1 ≡ false
unfolding is_reserved reserved_in keywords bytes same
logic_1364_2001 = refl

-- the answers of the four versions
unfoldable pub answers : String → List Bool
answers s = map (is_reserved (bytes s)) (0 ∷ 1 ∷ 2 ∷ 3 ∷ [])

pub uwire_answers : answers "uwire" ≡ false ∷ false ∷ true ∷ true ∷ []
unfolding answers is_reserved reserved_in keywords bytes same
uwire_answers = refl

-- the words that the tables of the request misspell or leave out
pub corrected_all : map answers ("trireg" ∷ "tri1" ∷ "pullup" ∷ "pulldown" ∷ []) ≡ replicate 4 (true ∷ true ∷ true ∷ true ∷ [])
unfolding answers is_reserved reserved_in keywords bytes same
corrected_all = refl

pub corrected_later : map answers ("pulsestyle_onevent" ∷ "pulsestyle_ondetect" ∷ []) ≡ replicate 2 (false ∷ true ∷ true ∷ true ∷ [])
unfolding answers is_reserved reserved_in keywords bytes same
corrected_later = refl

-- and their misspellings
pub misspelt : map answers ("triereg" ∷ "tril" ∷ "pulsestyle_oneevent" ∷ "pulsetyle_oneevent" ∷ "pulsetyle_ondetect" ∷ []) ≡ replicate 5 (false ∷ false ∷ false ∷ false ∷ [])
unfolding answers is_reserved reserved_in keywords bytes same
misspelt = refl
