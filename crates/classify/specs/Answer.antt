-- Classify's answer: 01's number, "line from 1, byte from 0", and the words written.
-- Assumes nothing.
use Rattle.std.specs.Prelude.{ℕ, cond, ◌||◌, ◌≡◌, List, ◌++◌, leb, ltb, length, drop}
use Rattle.places.specs.Places.{line_at}
use Rattle.classify.specs.Words.{Words, ends, words_of}
use Rattle.classify.specs.declared.Ended.{Ended}
use Rattle.classify.specs.declared.Classified.{Classified}

-- "Classify gives only 1 (starting set none of the four, text over 16,777,215 bytes), 2 to 6 and 21"
unfoldable pub outcome_of : ℕ → List ℕ → ℕ → Words
outcome_of v s k = cond (ltb 3 v || ltb 16777215 (length s)) (ends 1 0) (words_of v s k)

-- the line of a refusal's place; of refusal 1 "the rest is 0", and so where nothing is refused
unfoldable pub refused_line : List ℕ → ℕ → ℕ → ℕ
refused_line s n p = cond (leb n 1) 0 (line_at s p)

abbrev pub ended_of : Words → Ended
ended_of w = record { number = w.number; place = w.place; words = length w.words }

-- 01's number for each answer is the number itself; 0 where nothing is refused
abbrev pub answer_of : List ℕ → Words → Classified
answer_of s w = record { number = w.number; line = refused_line s w.number w.place; byte = w.place; words = length w.words }

-- the lent list, with words written to its front
abbrev pub overwritten : List (List ℕ) → List (List ℕ) → List (List ℕ)
overwritten ws lent = ws ++ drop (length ws) lent

-- the words of a text were listed
pub record Listed (v : ℕ) (s : List ℕ) (lent after : List (List ℕ)) (r : Ended) : Type 0 where
  pub ended : r ≡ ended_of (words_of v s (length lent))
  pub list : after ≡ overwritten (words_of v s (length lent)).words lent

-- one outcome w of classify: the answer, and the lent list
pub record Answered (s : List ℕ) (w : Words) (lent after : List (List ℕ)) (r : Classified) : Type 0 where
  pub answer : r ≡ answer_of s w
  pub list : after ≡ overwritten w.words lent
