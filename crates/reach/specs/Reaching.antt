-- Rows of bits and the ways along them.
-- Assumes nothing.
use Rattle.std.specs.Prelude.{ℕ, ◌<◌, ◌≤◌, Bool, true, ◌||◌, ◌&&◌, ◌≡◌, List, [], ◌∷◌, length, get_or}
use Rattle.sets.specs.Sets.{elem, members}
use Rattle.sets.specs.declared.MacroSet.{MacroSet}

abbrev pub set_of : List ℕ → MacroSet
set_of v = record { w0 = get_or v 0 0; w1 = get_or v 1 0; w2 = get_or v 2 0; w3 = get_or v 3 0 }

abbrev pub row_of : MacroSet → List ℕ
row_of s = s.w0 ∷ s.w1 ∷ s.w2 ∷ s.w3 ∷ []

-- macro j is in row i
unfoldable pub has_bit : List (List ℕ) → ℕ → ℕ → Bool
has_bit r i j = elem j (members (set_of (get_or r i (0 ∷ 0 ∷ 0 ∷ 0 ∷ []))))

-- n rows that name only each other
pub record Fits (r : List (List ℕ)) (n : ℕ) : Type 0 where
  pub lent : n ≤ length r
  pub few : n ≤ 256
  pub named : (i j : ℕ) → i < n → has_bit r i j ≡ true → j < n

-- row i with that of k, if k is in it; the others as they were
pub record Joined (r r' : List (List ℕ)) (i k : ℕ) : Type 0 where
  pub same_length : length r' ≡ length r
  pub joined : (j : ℕ) → has_bit r' i j ≡ (has_bit r i j || (has_bit r i k && has_bit r k j))
  pub others : (a j : ℕ) → (a ≡ i → ⊥) → has_bit r' a j ≡ has_bit r a j

-- .. each of the first n; row k itself stays
pub record JoinedAll (r r' : List (List ℕ)) (n k : ℕ) : Type 0 where
  pub same_length : length r' ≡ length r
  pub joined : (i j : ℕ) → i < n → has_bit r' i j ≡ (has_bit r i j || (has_bit r i k && has_bit r k j))

-- a way from i to j along the rows, of one step or more
pub data Way (r : List (List ℕ)) : ℕ → ℕ → Type 0 where
  step : {i j : ℕ} → has_bit r i j ≡ true → Way r i j
  then : {i k j : ℕ} → has_bit r i k ≡ true → Way r k j → Way r i j

-- r' has of the first n macros what they reach along r
pub record Closed (r r' : List (List ℕ)) (n : ℕ) : Type 0 where
  pub same_length : length r' ≡ length r
  pub sound : (i j : ℕ) → i < n → has_bit r' i j ≡ true → Way r i j
  pub complete : (i j : ℕ) → i < n → Way r i j → has_bit r' i j ≡ true
