-- Bytes put behind the first n of a buffer, in one step or in several, and a loop that puts them.
-- Assumes nothing.
use Prim.Native.Nat.{ℕ, ◌+◌, ◌<◌, ◌≤◌}
use mathlib.Core.List.{List, [], ◌∷◌, ◌++◌, append-nil, append_assoc}
use mathlib.Core.Logic.{◌⊎◌, inl, inr}
use mathlib.Core.Path.{◌≡◌, refl, ap, sym, ◌∙◌, subst}
use native.Mathlib.Numerals.{add-one}
use native.Mathlib.Omega.{arith}
use lib.ListN.{length, set, length-append}
use lib.Seq.{take-suc-set}
use Rattle.std.specs.Prelude.{Option, Some, None}
use Rattle.form.specs.Putting.{Put, PutBy}

-- nothing, and one byte
module _ (o : List ℕ) (n : ℕ) where
  pub put_none : n ≤ length o → Put o o n n []
  put_none l = record { count = omega arith; fits = l; bytes = rw append-nil }

  pub put_one : (b : ℕ) → n < length o → Put o (set o n b) n (n + 1) (b ∷ [])
  put_one b l = record { count = refl; fits = omega arith; bytes = rw (add-one, take-suc-set o n b l) }

-- ys behind xs
module _ {o o' : List ℕ} {n m : ℕ} {xs : List ℕ} (a : Put o o' n m xs) (z : length o' ≡ length o) where
  pub put_past : m ≤ length o'
  put_past = omega (arith, a.fits)

  pub put_then : {o'' : List ℕ} {k : ℕ} {ys : List ℕ} → Put o' o'' m k ys → Put o o'' n k (xs ++ ys)
  put_then b =
      record {
        count = rw length-append (omega (arith, a.count, b.count));
        fits = omega (arith, b.fits);
        bytes = b.bytes ∙ rw (a.bytes, append_assoc);
      }

  no_room : (ys : List ℕ) → length o' < m + length ys → length o < n + length (xs ++ ys)
  no_room ys b = rw length-append (omega (arith, a.count))

  pub by_then : {lack lack' : Type 0} → (lack → lack') → (o'' ys : List ℕ) {zs : List ℕ} → xs ++ ys ≡ zs → (r : Option ℕ) → PutBy r lack o' o'' m ys
      → PutBy r lack' o o'' n zs
  by_then f o'' ys e (Some k) b = subst (λ (w : List ℕ). Put o o'' n k w) e (put_then b)
  by_then f o'' ys e None (inl x) = inl (f x)
  by_then f o'' ys e None (inr b) = inr (rw (← e) (no_room ys b))

-- the bytes and the lack said in other words
pub put_as : (r : Option ℕ) {lack lack' : Type 0} (o o' : List ℕ) (n : ℕ) {xs ys : List ℕ} → (lack → lack') → xs ≡ ys → PutBy r lack o o' n xs
    → PutBy r lack' o o' n ys
put_as (Some m) o o' n f e b = subst (λ (w : List ℕ). Put o o' n m w) e b
put_as None o o' n f e (inl x) = inl (f x)
put_as None o o' n f e (inr b) = inr (rw (← e) b)

-- no room for xs, nor for more
module _ (r : Option ℕ) {lack lack' : Type 0} (o o' : List ℕ) (n : ℕ) (xs : List ℕ) (h : PutBy r lack o o' n xs) where
  pub put_not : r ≡ None → (lack → lack') → (ys : List ℕ) {zs : List ℕ} → xs ++ ys ≡ zs → lack' ⊎ (length o < n + length zs)
  put_not q f ys {zs} e = go (subst (λ (x : Option ℕ). PutBy x lack o o' n xs) q h)
    where
      go : lack ⊎ (length o < n + length xs) → lack' ⊎ (length o < n + length zs)
      go (inl x) = inl (f x)
      go (inr b) = inr (rw (← e, length-append) (omega arith))

-- What a loop has put so far: past it comes `rest`, and all of it is `whole`.
pub record Pushing (o o' : List ℕ) (n k : ℕ) (rest whole : List ℕ) : Type 0 where
  pub same_length : length o' ≡ length o
  pub done : List ℕ
  pub put : Put o o' n k done
  pub splits : done ++ rest ≡ whole

pub pushing_first : {o : List ℕ} {n : ℕ} {whole : List ℕ} → n ≤ length o → Pushing o o n n whole whole
pushing_first {o} {n} l = record { same_length = refl; done = []; put = put_none o n l; splits = refl }

module _ {o o' : List ℕ} {n k : ℕ} {rest whole : List ℕ} (a : Pushing o o' n k rest whole) where
  pub pushing_end : rest ≡ [] → Put o o' n k whole
  pushing_end e =
      let q : a.done ≡ whole = sym (append-nil a.done) ∙ (ap (λ (w : List ℕ). a.done ++ w) (sym e) ∙ a.splits) in
      subst (λ (w : List ℕ). Put o o' n k w) q a.put

  module _ (ys left : List ℕ) (e : rest ≡ ys ++ left) where
    -- a first part of the rest is put
    pub pushing_next : {o'' : List ℕ} {m : ℕ} → length o'' ≡ length o' → Put o' o'' k m ys → Pushing o o'' n m left whole
    pushing_next z b =
        record {
          same_length = z ∙ a.same_length;
          done = a.done ++ ys;
          put = put_then a.put a.same_length b;
          splits = append_assoc a.done ys left ∙ (ap (λ (w : List ℕ). a.done ++ w) (sym e) ∙ a.splits);
        }

    -- or there is no room for it
    pub pushing_short : length o' < k + length ys → length o < n + length whole
    pushing_short b = rw (← a.splits) (no_room a.put a.same_length rest (rw (e, length-append) (omega arith)))
