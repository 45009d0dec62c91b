-- Arguments as ranges of positions, where a list is sought.
-- Assumes nothing.
use Rattle.std.specs.Prelude.{ℕ, ◌<◌, ◌≤◌, ◌≡◌, List, [], ◌∷◌, length, get_or, Result, Ok, Err}
use Rattle.lex.specs.declared.Fault.{Fault}
use Rattle.pending.specs.Pending.{Pending}
use Rattle.pending.specs.Sources.{Spans}
use Rattle.arguments.specs.Arguments.{Args, bad, args, seek, collect}

-- range k of r: where argument k stands in its list, and in the replacement
abbrev pub range_of : List (List ℕ) → ℕ → List ℕ
range_of r k = get_or r k (0 ∷ 0 ∷ 0 ∷ 0 ∷ [])

abbrev pub range_from : List (List ℕ) → ℕ → ℕ
range_from r k = get_or (range_of r k) 0 0

abbrev pub range_to : List (List ℕ) → ℕ → ℕ
range_to r k = get_or (range_of r k) 1 0

abbrev pub placed_from : List (List ℕ) → ℕ → ℕ
placed_from r k = get_or (range_of r k) 2 0

abbrev pub placed_to : List (List ℕ) → ℕ → ℕ
placed_to r k = get_or (range_of r k) 3 0

-- none of the first c arguments was put in place
abbrev pub Unplaced : List (List ℕ) → ℕ → Type 0
Unplaced r c = (k : ℕ) → k < c → k < length r → placed_to r k < placed_from r k

-- argument k stands in range k of r, as far as there are ranges
abbrev pub Ranged : (ℕ → List Pending) → ℕ → List (List ℕ) → List (List Pending) → Type 0
Ranged f last r xs =
    (k : ℕ) → k < length xs → k < length r → Spans f (range_from r k) (range_to r k) (get_or xs k []) × (range_to r k ≤ last)

-- behind the `(` at i, or refused
abbrev pub OpenedBy : Result ℕ Fault → (ℕ → List Pending) → ℕ → ℕ → Type 0
OpenedBy (Ok k) f last i = (seek (f i) ≡ collect (f k) []) × (k ≤ last)
OpenedBy (Err e) f last i = seek (f i) ≡ bad e.number e.place

-- a list of c arguments that ends at e, these in the ranges r
pub record Lists (g : Args) (f : ℕ → List Pending) (last : ℕ) (r : List (List ℕ)) (c e : ℕ) : Type 0 where
  pub first : List Pending
  pub others : List (List Pending)
  pub shape : g ≡ args first others (f e)
  pub count : c ≡ length (first ∷ others)
  pub ranged : Ranged f last r (first ∷ others)
  pub unplaced : Unplaced r c
  pub within : e ≤ last

abbrev pub SoughtBy : Result (ℕ × ℕ) Fault → Args → (ℕ → List Pending) → ℕ → List (List ℕ) → Type 0
SoughtBy (Ok l) g f last r = Lists g f last r l.0 l.1
SoughtBy (Err e) g f last r = g ≡ bad e.number e.place

-- what is lent to read a list in: references, and bytes for as many brackets as there are tokens
pub record Listable (s : List ℕ) (l : List (List ℕ)) (n : ℕ) (last at : ℕ) (w : List ℕ) : Type 0 where
  pub filled : n ≤ length l
  pub small : last ≤ 65535
  pub inside : at ≤ last
  pub brackets : 16384 ≤ length w
