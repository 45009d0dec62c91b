-- What the tokens of a text cover.
-- Assumes nothing.
use Rattle.std.specs.Prelude.{ℕ, ◌<◌, ◌≡◌, List, [], ◌∷◌, ◌++◌}
use Rattle.text.specs.Bytes.{part}
use Rattle.lex.specs.declared.Token.{Token}

-- the bytes of s that tokens stand for, one token after the other
unfoldable pub written : List ℕ → List Token → List ℕ
written s [] = []
written s (t ∷ ts) = part s t.at t.end ++ written s ts

-- no token is empty, and each starts where the one before ends, the first at i
pub data Chain : ℕ → List Token → Type 0 where
  none : {i : ℕ} → Chain i []
  next : {i : ℕ} {t : Token} {ts : List Token} → t.at ≡ i → i < t.end → Chain t.end ts → Chain i (t ∷ ts)
