-- The three constant tables, made from the readable list.
-- Assumes nothing.
use Rattle.std.specs.Prelude.{◌≡◌, List, [], ◌∷◌, ◌++◌, ℕ, ◌+◌, length}
use Rattle.keywords.specs.Keywords.{Keyword, word, first, keywords}

-- the words written one after the other
unfoldable pub flat : List Keyword → List ℕ
flat [] = []
flat (k ∷ ks) = word k ++ flat ks

-- where each word starts, the first at a, and where the last one ends
unfoldable pub starts_from : ℕ → List Keyword → List ℕ
starts_from a [] = a ∷ []
starts_from a (k ∷ ks) = a ∷ starts_from (a + length (word k)) ks

unfoldable pub firsts : List Keyword → List ℕ
firsts [] = []
firsts (k ∷ ks) = first k ∷ firsts ks

unfoldable pub keyword_bytes : List ℕ
keyword_bytes = flat keywords

unfoldable pub keyword_starts : List ℕ
keyword_starts = starts_from 0 keywords

unfoldable pub keyword_firsts : List ℕ
keyword_firsts = firsts keywords

-- what is lent are the tables
pub record Tables (b s f : List ℕ) : Type 0 where
  pub its_bytes : b ≡ keyword_bytes
  pub its_starts : s ≡ keyword_starts
  pub its_firsts : f ≡ keyword_firsts
