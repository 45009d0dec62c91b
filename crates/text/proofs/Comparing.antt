-- The laws of byte order: it is the order of `cmp`, and an order. Assumes nothing.
use mathlib.Core.Path.{◌≡◌, refl}
use mathlib.Core.Bool.{Bool, true, false}
use mathlib.Core.List.{List, [], ◌∷◌}
use Prim.Native.Nat.{ℕ, ◌<◌}
use native.Mathlib.Omega.{arith}
use lib.Dec.{ltb}
use borrow.Author.Tests.{ltb-true, ltb-false, lt-ltb, le-ltb}
use Rattle.std.proofs.Common.{Ordering, Less, Equal, Greater, nat_cmp}
use Rattle.std.proofs.lemmas.Bool.Decides.{nat_tests}
use Rattle.std.specs.Cmp.Lexicographic.{slice_cmp}
use Rattle.std.specs.Ordering.{ordering_then, ordering_reverse}
use Rattle.text.specs.Order.{order_of, by_first}

-- the order of two first bytes x and y, and of what follows them
data First (x y : ℕ) (o : Ordering) : Ordering → Type 0 where
  lower : x < y → First x y o Less
  higher : y < x → First x y o Greater
  level : x ≡ y → First x y o o

by_first_lem : (x y : ℕ) (o : Ordering) → First x y o (by_first (ltb x y) (ltb y x) o)
by_first_lem x y o = go (ltb x y) (ltb y x) refl refl
  where
    go : (t u : Bool) → ltb x y ≡ t → ltb y x ≡ u → First x y o (by_first t u o)
    go true u e f = lower (ltb-true x y e)
    go false true e f = higher (ltb-true y x f)
    go false false e f = let l = ltb-false x y e in let g = ltb-false y x f in level (omega arith)

order_first : {x y : ℕ} {o r : Ordering} → First x y o r → ordering_then (nat_cmp x y) o ≡ r
order_first (lower l) = rw (lt-ltb)
order_first (higher g) = grind (arith, nat_tests)
order_first (level e) = grind (arith, nat_tests)

-- it is the order that `cmp` of std's slices has
pub order_std : (a b : List ℕ) → slice_cmp nat_cmp a b ≡ order_of a b
unfolding order_of
order_std [] [] = refl
order_std [] (y ∷ b) = refl
order_std (x ∷ a) [] = refl
order_std (x ∷ a) (y ∷ b) = rw (order_std a b) (order_first (by_first_lem x y (order_of a b)))

turned_first : {x y : ℕ} {o r : Ordering} → First x y o r → by_first (ltb y x) (ltb x y) (ordering_reverse o) ≡ ordering_reverse r
turned_first {x} {y} (lower l) = rw (le-ltb y x (omega arith), lt-ltb x y l)
turned_first {x} {y} (higher g) = rw (lt-ltb y x g)
turned_first {x} {y} (level e) = rw (le-ltb y x (omega arith), le-ltb x y (omega arith))

pub order_turned : (a b : List ℕ) → order_of b a ≡ ordering_reverse (order_of a b)
unfolding order_of
order_turned [] [] = refl
order_turned [] (y ∷ b) = refl
order_turned (x ∷ a) [] = refl
order_turned (x ∷ a) (y ∷ b) = rw (order_turned a b) (turned_first (by_first_lem x y (order_of a b)))

-- two strings are equal in order only where they are the same
equal_first : {x y : ℕ} {o r : Ordering} {a b : List ℕ} → First x y o r → (o ≡ Equal → a ≡ b) → r ≡ Equal → x ∷ a ≡ y ∷ b
equal_first (lower l) h q = cc
equal_first (higher g) h q = cc
equal_first (level e) h q = let t = h q in cc

pub order_equal : (a b : List ℕ) → order_of a b ≡ Equal → a ≡ b
unfolding order_of
order_equal [] [] q = refl
order_equal [] (y ∷ b) q = cc
order_equal (x ∷ a) [] q = cc
order_equal (x ∷ a) (y ∷ b) q = equal_first (by_first_lem x y (order_of a b)) (order_equal a b) q

trans_first : {x y z : ℕ} {o p r s t : Ordering} → First x y o r → First y z p s → (o ≡ Less → p ≡ Less → t ≡ Less)
    → r ≡ Less → s ≡ Less → by_first (ltb x z) (ltb z x) t ≡ Less
trans_first (higher g) f h q k = cc
trans_first (lower l) (higher g) h q k = cc
trans_first (level e) (higher g) h q k = cc
trans_first {x} {y} {z} (lower l) (lower m) h q k = rw (lt-ltb x z (omega arith))
trans_first {x} {y} {z} (lower l) (level e) h q k = rw (lt-ltb x z (omega arith))
trans_first {x} {y} {z} (level e) (lower l) h q k = rw (lt-ltb x z (omega arith))
trans_first {x} {y} {z} (level e) (level f) h q k = rw (le-ltb x z (omega arith), le-ltb z x (omega arith)) (h q k)

pub order_trans : (a b c : List ℕ) → order_of a b ≡ Less → order_of b c ≡ Less → order_of a c ≡ Less
unfolding order_of
order_trans [] [] c q k = cc
order_trans [] (y ∷ b) [] q k = cc
order_trans [] (y ∷ b) (z ∷ c) q k = refl
order_trans (x ∷ a) [] c q k = cc
order_trans (x ∷ a) (y ∷ b) [] q k = cc
order_trans (x ∷ a) (y ∷ b) (z ∷ c) q k =
    trans_first (by_first_lem x y (order_of a b)) (by_first_lem y z (order_of b c)) (order_trans a b c) q k
