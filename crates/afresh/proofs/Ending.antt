-- A text that ends in no white space, and an escaped name that ends at a `\` before a newline in it.
-- Assumes nothing.
use Prim.Native.Nat.{ℕ, zero, suc, ◌-◌}
use mathlib.Core.Bool.{Bool, true, false, ◌||◌}
use mathlib.Core.List.{List, [], ◌∷◌, ◌++◌}
use mathlib.Core.Path.{◌≡◌, refl, ap, sym, ◌∙◌}
use native.Mathlib.Omega.{arith}
use lib.Dec.{eqb}
use lib.ListN.{length, take, drop}
use lib.Seq.{take_at}
use borrow.Author.Tests.{eqb-true}
use Rattle.lex.specs.Classes.{is_white, is_space}
use Rattle.storing.specs.Stored.{keep, trim_right}
use Rattle.afresh.specs.States.{Start, Line, fresh, in_line, in_marked, in_short, outside}
use Rattle.afresh.proofs.Sorts.{apart, space_legal}
use Rattle.afresh.proofs.Going.{Hold, marks_of, standing, start, verdict, spoils, goes, passed, clear, closes}
use Rattle.afresh.proofs.Placing.{longer_by}

-- such a text without its first byte is one
pub trimmed_next : (x : ℕ) (xs : List ℕ) → trim_right (x ∷ xs) ≡ x ∷ xs → trim_right xs ≡ xs
unfolding trim_right
trimmed_next x xs h = go (trim_right xs) (is_space x) refl refl h
  where
    go : (ys : List ℕ) (b : Bool) → trim_right xs ≡ ys → is_space x ≡ b → keep x ys ≡ x ∷ xs → trim_right xs ≡ xs
    go [] true e s f = let z : [] ≡ x ∷ xs = rw s at f in cc
    go [] false e s f = let z : x ∷ [] ≡ x ∷ xs = rw s at f in cc
    go (y ∷ ys) b e s f = cc

pub trimmed_drop : (i : ℕ) (w : List ℕ) → trim_right w ≡ w → trim_right (drop i w) ≡ drop i w
unfolding trim_right
trimmed_drop zero w h = h
trimmed_drop (suc i) [] h = refl
trimmed_drop (suc i) (x ∷ w) h = trimmed_drop i w (trimmed_next x w h)

-- white space is not its last byte
not_last : {A : Type 0} (a b : A) (x : ℕ) → is_space x ≡ true → trim_right (x ∷ []) ≡ x ∷ [] → a ≡ b
unfolding trim_right
not_last a b x e h = let z : [] ≡ x ∷ [] = rw e at h in cc

module _ (h : Hold) (m : marks_of h ≡ false) where
  -- white space between tokens
  pub space_reads : (x : ℕ) (xs : List ℕ) → is_space x ≡ true → verdict (start h) (x ∷ xs) ≡ verdict (start h) xs
  unfolding outside fresh
  space_reads x xs e =
      goes (start h) (start h) x xs (passed h Start false [] refl x (clear h x (space_legal x e) (apart is_space x 96 e refl)) ∙ go (eqb x 10) (is_white x) refl refl e)
    where
      go : (a b : Bool) → eqb x 10 ≡ a → is_white x ≡ b → (a || b) ≡ true → outside (start h) x ≡ start h
      go a true p q f = rw q
      go true false p q f = rw (eqb-true x 10 p, m)
      go false false p q f = cc

  -- an escaped name, and past a `\` and a newline white space
  pub line_reads : (g : Bool) (n : List ℕ) (z : ℕ) (xs : List ℕ) → is_space z ≡ true → trim_right (z ∷ xs) ≡ z ∷ xs
      → verdict (standing Line h g (n ++ (92 ∷ []))) xs ≡ (spoils g n || verdict (start h) xs)
  unfolding outside in_short in_marked in_line
  line_reads g n z [] s t = not_last _ _ z s t
  line_reads g n z (x ∷ xs) s t = go (is_space x) refl (λ e. line_reads g n x xs e (trimmed_next z (x ∷ xs) t))
    where
      shorn : take (length (n ++ (92 ∷ [])) - 1) (n ++ (92 ∷ [])) ≡ n
      shorn = take_at n (92 ∷ []) (length (n ++ (92 ∷ [])) - 1) (omega (arith, longer_by n 92))

      go : (b : Bool) → is_space x ≡ b → (is_space x ≡ true → verdict (standing Line h g (n ++ (92 ∷ []))) xs ≡ (spoils g n || verdict (start h) xs))
          → verdict (standing Line h g (n ++ (92 ∷ []))) (x ∷ xs) ≡ (spoils g n || verdict (start h) (x ∷ xs))
      go true e f =
          let q = standing Line h g (n ++ (92 ∷ [])) in
          goes q q x xs (passed h Line g (n ++ (92 ∷ [])) refl x (clear h x (space_legal x e) (apart is_space x 96 e refl)) ∙ rw e)
          ∙ (f e ∙ ap (λ (c : Bool). spoils g n || c) (sym (space_reads x xs e)))
      go false e f = closes h Line Line g (n ++ (92 ∷ [])) n refl x xs (rw (e, shorn))
