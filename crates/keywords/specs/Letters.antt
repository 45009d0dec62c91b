-- The words of the table by their first letter.
-- Assumes nothing.
use Rattle.std.specs.Prelude.{◌≡◌, Bool, cond, ◌&&◌, List, [], ◌∷◌, ℕ, ◌<◌, ◌≤◌, eqb, leb, ltb, length, get_or}
use Rattle.keywords.specs.Keywords.{Keyword, word, keywords, word_at}
use Rattle.keywords.specs.declared.letters.Stretch.{Stretch}

-- whether byte b is the first byte of a word
abbrev pub starts_with : ℕ → List ℕ → Bool
starts_with b w = eqb (get_or w 0 0) b

-- the length of the longest word of a list that starts with b, 0 if none does
unfoldable pub longest_of : ℕ → List Keyword → ℕ
longest_of b [] = 0
longest_of b (k ∷ ks) =
    let m = longest_of b ks in
    let n = length (word k) in
    cond (starts_with b (word k) && ltb m n) n m

-- whether word k of the table stands in a stretch
abbrev pub is_in : Stretch → ℕ → Bool
is_in s k = leb s.from k && ltb k s.end

-- the stretch s of the table holds every word that starts with b and no other, and says how long the longest is
pub record StretchOf (b : ℕ) (s : Stretch) : Type 0 where
  pub its_words : (k : ℕ) → k < 221 → starts_with b (word_at k) ≡ is_in s k
  pub in_table : s.end ≤ 221
  pub its_longest : s.longest ≡ longest_of b keywords
