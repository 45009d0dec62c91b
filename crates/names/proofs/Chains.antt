-- A table of words tried in order: what the tests told, each as the code knows it, and the number that they make.
-- Assumes nothing.
use Prim.Native.String.{String}
use Prim.Native.Nat.{ℕ}
use mathlib.Core.Bool.{Bool, true, false}
use mathlib.Core.List.{List, [], ◌∷◌}
use mathlib.Core.Path.{◌≡◌, sym, ◌∙◌}
use lib.ListN.{drop}
use Rattle.text.specs.Bytes.{bytes, same}
use Rattle.names.specs.Names.{Pair, pair, number_in}

pub data Tried (w : List ℕ) (d : ℕ) : List Pair → ℕ → Type 0 where
  miss :
      {x : String} {n k : ℕ} {ps : List Pair} {r : Bool} → r ≡ same w (bytes x) → r ≡ false → Tried w d ps k →
      Tried w d (pair x n ∷ ps) k
  hit : {x : String} {n : ℕ} {ps : List Pair} {r : Bool} → r ≡ same w (bytes x) → r ≡ true → Tried w d (pair x n ∷ ps) n
  none : {n : ℕ} → n ≡ d → Tried w d [] n

pub ruleset chain = (miss, hit, none)

pub number : {w : List ℕ} {d n : ℕ} {ps : List Pair} → Tried w d ps n → n ≡ number_in ps d w
unfolding number_in
number (miss e t h) = rw (sym e ∙ t) (number h)
number (hit e t) = rw (sym e ∙ t)
number (none e) = e

-- a long table in two parts, so that the search for each stays short
pub past :
    {w : List ℕ} {d n : ℕ} {ps : List Pair} (k : ℕ) → (Tried w d (drop k ps) n → Tried w d ps n) →
    Tried w d (drop k ps) n → Tried w d ps n
past k first rest = first rest
