-- Lines and places (01: "file number times 131,072 plus line"), and what the two `__` words write.
-- Assumes nothing.
use Rattle.std.specs.Prelude.{ℕ, zero, suc, ◌+◌, ◌*◌, ◌/◌, ◌%◌, cond, List, [], ◌∷◌, ◌++◌, eqb, ltb, take}

-- the newlines among bytes
unfoldable pub newlines : List ℕ → ℕ
newlines [] = 0
newlines (b ∷ bs) = let r = newlines bs in cond (eqb b 10) (suc r) r

-- "line from 1": of the byte at i
unfoldable pub line_at : List ℕ → ℕ → ℕ
line_at s i = suc (newlines (take i s))

abbrev pub place_of : ℕ → ℕ → ℕ
place_of file line = file * 131072 + line

-- "the quoted entry name"
abbrev pub quoted : List ℕ → List ℕ
quoted w = 34 ∷ (w ++ (34 ∷ []))

-- "the decimal line": n with at most k digits
unfoldable pub decimal : ℕ → ℕ → List ℕ
decimal zero n = []
decimal (suc k) n =
    let r = decimal k (n / 10) in
    cond (ltb n 10) ((48 + n) ∷ []) (r ++ ((48 + n % 10) ∷ []))
