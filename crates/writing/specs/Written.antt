-- What is written: bytes, each with its place; the text, the map, and the rooms for both.
-- Assumes nothing.
use Rattle.std.specs.Prelude.{ℕ, ◌+◌, ◌-◌, Bool, cond, List, [], ◌∷◌, eqb, ltb, length}

-- a byte and its place as the map has it: "file number times 131,072 plus line"
pub data Written : Type 0 where
  put : ℕ → ℕ → Written

-- bytes from the place p on, which each newline moves by `step`: 1 for a file's own bytes; 0 for what comes out of a usage,
-- whose bytes all have its place
unfoldable pub placed : ℕ → ℕ → List ℕ → List Written
placed step p [] = []
placed step p (b ∷ bs) = put b p ∷ placed step (cond (eqb b 10) (p + step) p) bs

unfoldable pub text_of : List Written → List ℕ
text_of [] = []
text_of (put b p ∷ ws) = b ∷ text_of ws

-- "one number for each written line .. of its first byte's place"; fresh: the next byte begins a line
unfoldable pub map_of : Bool → List Written → List ℕ
map_of fresh [] = []
map_of fresh (put b p ∷ ws) = let r = map_of (eqb b 10) ws in cond fresh (p ∷ r) r

unfoldable pub fresh_after : Bool → List Written → Bool
fresh_after fresh [] = fresh
fresh_after fresh (put b p ∷ ws) = fresh_after (eqb b 10) ws

-- the bytes and the map entries that still have room
pub record Room : Type 0 where
  pub bytes : ℕ
  pub lines : ℕ
  pub fresh : Bool

pub data Put : Type 0 where
  full : ℕ → Put
  fitted : Room → Put

-- 19, 20: "no room for a whole token in text; for a map entry"
unfoldable pub put_in : Room → List Written → Put
put_in r ws =
    let n = length ws in
    let l = length (map_of r.fresh ws) in
    cond (ltb r.bytes n) (full 19)
    (cond (ltb r.lines l) (full 20)
    (fitted (record { bytes = r.bytes - n; lines = r.lines - l; fresh = fresh_after r.fresh ws })))
