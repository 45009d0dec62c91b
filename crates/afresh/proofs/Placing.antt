-- Where the bytes xs stand in a text w: from i on.
-- Assumes nothing.
use Prim.Native.Nat.{ℕ, suc, ◌+◌, ◌-◌, ◌<◌}
use mathlib.Core.Bool.{Bool, true, false}
use mathlib.Core.List.{List, [], ◌∷◌, ◌++◌}
use mathlib.Core.Path.{◌≡◌, refl, ap, sym, ◌∙◌}
use native.Mathlib.Numerals.{add-one}
use native.Mathlib.Omega.{arith}
use lib.Dec.{leb}
use lib.ListN.{length, get_or, drop, drop_of_length-le, length-append}
use lib.Seq.{drop-cons, get_or-drop, take_at, append_snoc}
use borrow.Author.Tests.{leb-true, leb-false}
use Rattle.text.specs.Bytes.{part}
use Rattle.text.proofs.Matching.{part_more, part_none}

-- the byte that stands there, 0 at the end
pub byte_at : (w : List ℕ) (i : ℕ) (xs : List ℕ) → drop i w ≡ xs → get_or w i 0 ≡ get_or xs 0 0
byte_at w i xs d =
    let q : i + 0 ≡ i = omega arith in
    ap (λ (n : ℕ). get_or w n 0) (sym q) ∙ (sym (get_or-drop i w 0 0) ∙ ap (λ (ys : List ℕ). get_or ys 0 0) d)

module _ (w : List ℕ) (i x : ℕ) (xs : List ℕ) (d : drop i w ≡ x ∷ xs) where
  pub goes_on : i < length w
  goes_on = go (leb (length w) i) refl
    where
      go : (b : Bool) → leb (length w) i ≡ b → i < length w
      go true e =
          let n : drop i w ≡ [] = drop_of_length-le w (leb-true (length w) i e) in
          let z : ◌≡◌ {A = ℕ} 0 1 = cc in
          absurd (omega arith)
      go false e = leb-false (length w) i e

  pub rest_at : drop (suc i) w ≡ xs
  rest_at = let c : drop i w ≡ get_or w i 0 ∷ drop (suc i) w = drop-cons w i 0 goes_on in cc

  -- the part from there on: its first byte, and what follows
  pub part_from : (e : ℕ) → i < e → part w i e ≡ x ∷ part w (suc i) e
  part_from e h = part_more w i e h goes_on ∙ rw (byte_at w i (x ∷ xs) d, add-one i)

  pub part_one : part w i (suc i) ≡ x ∷ []
  part_one = part_from (suc i) (omega arith) ∙ rw (part_none w (suc i) (suc i) (omega arith))

-- the bytes n from `from` on, of a name that is read up to i
pub record Reads (w : List ℕ) (from i : ℕ) (n xs : List ℕ) : Type 0 where
  pub here : drop i w ≡ xs
  pub name : n ++ xs ≡ drop from w
  pub long : from + length n ≡ i

module _ {w : List ℕ} {from i : ℕ} {n xs : List ℕ} (r : Reads w from i n xs) where
  pub reads_name : part w from i ≡ n
  reads_name =
      let q : length n ≡ i - from = omega (arith, r.long) in
      rw (← r.name) (take_at n xs (i - from) q)

  pub reads_long : i - from ≡ length n
  reads_long = omega (arith, r.long)

pub reads_first : {w : List ℕ} {i : ℕ} {xs : List ℕ} → drop i w ≡ xs → Reads w i i [] xs
reads_first {w} {i} d = record { here = d; name = sym d; long = omega arith }

pub reads_more : {w : List ℕ} {from i : ℕ} {n : List ℕ} {x : ℕ} {xs : List ℕ} → Reads w from i n (x ∷ xs) → Reads w from (suc i) (n ++ (x ∷ [])) xs
reads_more {w} {from} {i} {n} {x} {xs} r =
    record {
      here = rest_at w i x xs r.here;
      name = append_snoc n x xs ∙ r.name;
      long = omega (arith, r.long, length-append n (x ∷ []));
    }

pub longer_by : (n : List ℕ) (x : ℕ) → length (n ++ (x ∷ [])) ≡ suc (length n)
longer_by n x = length-append n (x ∷ []) ∙ omega arith
