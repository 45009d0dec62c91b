-- Byte strings and parts of a text.
-- Assumes nothing.
use Rattle.std.specs.Prelude.{ℕ, ◌+◌, ◌-◌, ◌*◌, Bool, true, false, ◌&&◌, ◌||◌, List, [], ◌∷◌, eqb, take, drop, get_or}
use Prim.Native.Char.{code}
use Prim.Native.String.{String, [] as done, ◌∷◌ as char-then}

-- the bytes of a text of ASCII characters
unfoldable pub bytes : String → List ℕ
bytes done = []
bytes (char-then c s) = code c ∷ bytes s

-- whether two words are one
unfoldable pub same : List ℕ → List ℕ → Bool
same [] [] = true
same [] (b ∷ w) = false
same (a ∷ s) [] = false
same (a ∷ s) (b ∷ w) = eqb a b && same s w

-- whether the text s begins with the word w
unfoldable pub begins : List ℕ → List ℕ → Bool
begins s [] = true
begins [] (b ∷ w) = false
begins (a ∷ s) (b ∷ w) = eqb a b && begins s w

-- whether the byte b stands in a text
unfoldable pub holds : ℕ → List ℕ → Bool
holds b [] = false
holds b (x ∷ xs) = eqb x b || holds b xs

-- the bytes of s from a to before e
abbrev pub part : List ℕ → ℕ → ℕ → List ℕ
part s a e = take (e - a) (drop a s)

-- the number in the two bytes at i, low first
abbrev pub two_at : List ℕ → ℕ → ℕ
two_at s i = get_or s i 0 + 256 * get_or s (i + 1) 0
