-- The lent text and map, and where writing stands in them.
-- Assumes nothing.
use Rattle.std.specs.Prelude.{ℕ, suc, ◌+◌, ◌-◌, ◌*◌, ◌<◌, ◌≤◌, Bool, true, cond, ◌≡◌, List, [], ◌∷◌, eqb, length}
use Rattle.std.proofs.lemmas.List.Edits.{sets}
use Rattle.writing.specs.Written.{Written, text_of, map_of, fresh_after, Room, full, fitted, put_in}
use Rattle.writing.specs.declared.Spot.{Spot}
use Rattle.writing.specs.declared.Wrote.{Wrote}
use Rattle.writing.specs.declared.Wrote.TheVariants as wrote

-- the lines that bytes begin; fresh: the next byte begins one
unfoldable pub line_count : Bool → List ℕ → ℕ
line_count fresh [] = 0
line_count fresh (b ∷ bs) = let r = line_count (eqb b 10) bs in cond fresh (suc r) r

-- "one number for each written line": a last one without newline counts if it has a byte
abbrev pub lines_in : List ℕ → ℕ
lines_in t = line_count true t

-- the room left in a text and a map of these lengths
abbrev pub room_of : ℕ → ℕ → Spot → Room
room_of text map z = record { bytes = text - z.written; lines = map - z.lines; fresh = z.fresh }

abbrev pub spot_after : Spot → List Written → Spot
spot_after z ws =
    record {
      written = z.written + length ws;
      lines = z.lines + length (map_of z.fresh ws);
      fresh = fresh_after z.fresh ws;
    }

-- what is lent to write w in, and its places are numbers of 32 bits
pub record Writable (w : List ℕ) (place step : ℕ) (text map : List ℕ) (z : Spot) : Type 0 where
  pub in_text : z.written ≤ length text
  pub in_map : z.lines ≤ length map
  pub in_place : place + step * length w < 4294967296

-- ws were written from z on, whether they fit or not
pub record Puts (ws : List Written) (text text' map map' : List ℕ) (z z' : Spot) : Type 0 where
  pub spot : z' ≡ spot_after z ws
  pub bytes : text' ≡ sets text z.written (text_of ws)
  pub lines : map' ≡ sets map z.lines (map_of z.fresh ws)

-- all of ws was written, or nothing since it has no room
abbrev pub WroteBy : Wrote → List Written → List ℕ → List ℕ → List ℕ → List ℕ → Spot → Type 0
WroteBy (wrote.Upto z') ws text text' map map' z =
    Puts ws text text' map map' z z' × (put_in (room_of (length text) (length map) z) ws ≡ fitted (room_of (length text) (length map) z'))
    × (z'.written ≤ length text) × (z'.lines ≤ length map)
WroteBy (wrote.Full n) ws text text' map map' z =
    (put_in (room_of (length text) (length map) z) ws ≡ full n) × (text' ≡ text) × (map' ≡ map)
