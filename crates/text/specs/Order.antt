-- Byte order of byte strings: the first byte that differs decides, and a string stands before what it begins.
-- Assumes nothing.
use Rattle.std.specs.Prelude.{ℕ, Bool, true, false, List, [], ◌∷◌, ltb}
use Rattle.std.specs.declared.cmp.Ordering.{Ordering}
use Rattle.std.specs.declared.cmp.Ordering.TheVariants.{Less, Equal, Greater}

-- the order by the tests x < y and y < x of the first bytes, and the order of the rest
abbrev pub by_first : Bool → Bool → Ordering → Ordering
by_first true g o = Less
by_first false true o = Greater
by_first false false o = o

unfoldable pub order_of : List ℕ → List ℕ → Ordering
order_of [] [] = Equal
order_of [] (y ∷ ys) = Less
order_of (x ∷ xs) [] = Greater
order_of (x ∷ xs) (y ∷ ys) = by_first (ltb x y) (ltb y x) (order_of xs ys)
