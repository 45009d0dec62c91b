-- Lists whose elements are a function of the place.
-- Assumes nothing.
use Prim.Native.Nat.{ℕ, zero, suc, ◌≤◌, ◌<◌}
use mathlib.Core.Path.{◌≡◌, refl, sym, ◌∙◌, ap}
use mathlib.Core.Bool.{Bool, true, false}
use mathlib.Core.List.{List, [], ◌∷◌, ◌++◌, map, append_assoc}
use native.Mathlib.Omega.{arith}
use lib.Dec.{ltb}
use lib.ListN.{length, take, drop, get_or, set, length-append, length-drop}
use lib.Seq.{drop-cons, set_at, take-suc, get_or-append_seam}
use borrow.Author.Tests.{ltb-true, ltb-false}

-- f at each number below n
unfoldable pub up_to : {A : Type 0} → ℕ → (ℕ → A) → List A
up_to zero f = []
up_to (suc n) f = up_to n f ++ (f n ∷ [])

pub map_join : {A B : Type 0} (g : A → B) (xs ys : List A) → map g (xs ++ ys) ≡ map g xs ++ map g ys
map_join g [] ys = refl
map_join g (x ∷ xs) ys = ap (λ zs. g x ∷ zs) (map_join g xs ys)

module _ {A : Type 0} (f : ℕ → A) where
  pub up_to_length : (n : ℕ) → length (up_to n f) ≡ n
  unfolding up_to
  up_to_length zero = refl
  up_to_length (suc n) = rw length-append (omega (arith, up_to_length n))

  -- the next element set
  pub up_to_set : (ys : List A) (d : A) (n : ℕ) → n < length ys → set (up_to n f ++ drop n ys) n (f n) ≡ up_to (suc n) f ++ drop (suc n) ys
  unfolding up_to
  up_to_set ys d n l =
      rw (drop-cons ys n d) (set_at (up_to n f) (get_or ys n d) (drop (suc n) ys) (f n) n (up_to_length n)
      ∙ sym (append_assoc (up_to n f) (f n ∷ []) (drop (suc n) ys)))

  pub up_to_long : (ys : List A) (n : ℕ) → n ≤ length ys → length (up_to n f ++ drop n ys) ≡ length ys
  up_to_long ys n l = rw (length-append, length-drop, up_to_length n) (omega arith)

  pub up_to_get : (n i : ℕ) (r : List A) (d : A) → i < n → get_or (up_to n f ++ r) i d ≡ f i
  unfolding up_to
  up_to_get zero i r d l = absurd (omega arith)
  up_to_get (suc n) i r d l = ap (λ (ys : List A). get_or ys i d) (append_assoc (up_to n f) (f n ∷ []) r) ∙ go (λ l'. up_to_get n i (f n ∷ r) d l') (ltb i n) refl
    where
      go : (i < n → get_or (up_to n f ++ (f n ∷ r)) i d ≡ f i) → (b : Bool) → ltb i n ≡ b → get_or (up_to n f ++ (f n ∷ r)) i d ≡ f i
      go k true e = k (ltb-true i n e)
      go _ false e =
          let g : n ≤ i = ltb-false i n e in
          let k : i ≡ n = omega arith in
          ap (λ (j : ℕ). get_or (up_to n f ++ (f n ∷ r)) j d) (k ∙ sym (up_to_length n)) ∙ get_or-append_seam (up_to n f) (f n) r d ∙ ap f (sym k)

  pub up_to_map : {B : Type 0} (g : A → B) (n : ℕ) → map g (up_to n f) ≡ up_to n (λ i. g (f i))
  unfolding up_to
  up_to_map g zero = refl
  up_to_map {B} g (suc n) = map_join g (up_to n f) (f n ∷ []) ∙ ap (λ (ys : List B). ys ++ (g (f n) ∷ [])) (up_to_map g n)

  pub up_to_same : (g : ℕ → A) (n : ℕ) → ((i : ℕ) → i < n → f i ≡ g i) → up_to n f ≡ up_to n g
  unfolding up_to
  up_to_same g zero h = refl
  up_to_same g (suc n) h =
      ap (λ (ys : List A). ys ++ (f n ∷ [])) (up_to_same g n (λ i l. h i (omega arith))) ∙ ap (λ (a : A). up_to n g ++ (a ∷ [])) (h n (omega arith))

pub up_to_take : {A : Type 0} (xs : List A) (d : A) (n : ℕ) → n ≤ length xs → up_to n (λ i. get_or xs i d) ≡ take n xs
unfolding up_to
up_to_take xs d zero l = refl
up_to_take xs d (suc n) l =
    ap (λ ys. ys ++ (get_or xs n d ∷ [])) (up_to_take xs d n (omega arith)) ∙ sym (take-suc xs n d (omega arith))
