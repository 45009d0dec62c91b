-- Sets of numbers as ascending lists, and the list that four words of bits stand for.
-- Assumes nothing.
use Rattle.std.specs.Prelude.{Bool, true, false, cond, List, [], ◌∷◌, ℕ, zero, suc, ◌+◌, ◌*◌, ◌/◌, ◌%◌, ◌^◌, eqb, ltb}
use Rattle.sets.specs.declared.MacroSet.{MacroSet}

-- whether x is in the list
unfoldable pub elem : ℕ → List ℕ → Bool
elem x [] = false
elem x (y ∷ ys) = cond (eqb x y) true (elem x ys)

-- the ascending list with x in it
unfoldable pub insert_asc : ℕ → List ℕ → List ℕ
insert_asc x [] = x ∷ []
insert_asc x (y ∷ ys) = cond (ltb x y) (x ∷ y ∷ ys) (cond (eqb x y) (y ∷ ys) (y ∷ insert_asc x ys))

-- the list with x in front where the test says so
abbrev pub cons_if : Bool → ℕ → List ℕ → List ℕ
cons_if true x l = x ∷ l
cons_if false x l = l

-- which of the d lowest bits of n are set, the lowest counted as b
unfoldable pub bits_of : ℕ → ℕ → ℕ → List ℕ
bits_of zero n b = []
bits_of (suc d) n b = cons_if (eqb (n % 2) 1) b (bits_of d (n / 2) (suc b))

-- the four words as one number of 256 bits
unfoldable pub value : MacroSet → ℕ
value s = s.w0 + 2 ^ 64 * (s.w1 + 2 ^ 64 * (s.w2 + 2 ^ 64 * s.w3))

-- the members, ascending
unfoldable pub members : MacroSet → List ℕ
members s = bits_of 256 (value s) 0

-- n with bit k set
unfoldable pub put : ℕ → ℕ → ℕ
put n k = cond (eqb (n / 2 ^ k % 2) 1) n (n + 2 ^ k)
