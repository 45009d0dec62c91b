-- Rows in lent buffers, as far as there is room.
-- Assumes nothing.
use Rattle.std.specs.Prelude.{ℕ, Option, Some, None, ◌≤◌, ◌<◌, ◌≡◌, List, [], length, take, get_or}
use Rattle.input.specs.Sections.{Rows, broken, rows, entry_of, Input, unformed, formed}

-- n is how many of the rows vs have room in the buffer b, and these stand there
pub record Filled (b vs : List (List ℕ)) (n : ℕ) : Type 0 where
  pub within : n ≤ length b
  pub few : n ≤ length vs
  pub all : n < length vs → n ≡ length b
  pub row : (k : ℕ) → k < n → get_or b k [] ≡ get_or vs k []

-- the rows of n names stand at the front of the table's entries, as far as there are any
pub record NamesIn (vs : List (List ℕ)) (n : ℕ) (table : List (List ℕ)) : Type 0 where
  pub count : length vs ≡ n
  pub row : (k : ℕ) → k < n → k < length table → take 3 (get_or table k []) ≡ get_or vs k []

-- a section is read to its end, and P holds of its rows; or it is not of the form
abbrev pub RowsBy : (List (List ℕ) → Type 0) → Option ℕ → Rows → ℕ → Type 0
RowsBy P (Some e) broken last = ⊥
RowsBy P (Some e) (rows vs i) last = (i ≡ e) × (e ≤ last) × P vs
RowsBy P None r last = r ≡ broken

abbrev pub NamesBy : Option ℕ → Rows → ℕ → List (List ℕ) → Type 0
NamesBy x r last table = RowsBy (λ vs. NamesIn vs (length vs) table) x r last

-- the bodies' rows stand behind them
abbrev pub BodiesIn : List (List ℕ) → List (List ℕ) → List (List ℕ) → Type 0
BodiesIn ws t t' = (k : ℕ) → k < length ws → k < length t → get_or t' k [] ≡ entry_of (get_or t k []) (get_or ws k [])

abbrev pub BodiesBy : Option ℕ → Rows → ℕ → List (List ℕ) → List (List ℕ) → Type 0
BodiesBy x r last t t' = RowsBy (λ ws. BodiesIn ws t t') x r last

abbrev pub StartsIn : List (List ℕ) → List (List ℕ) → Type 0
StartsIn us b = (k : ℕ) → k < length us → k < length b → get_or b k [] ≡ get_or us k []

abbrev pub StartsBy : Option ℕ → Rows → ℕ → List (List ℕ) → Type 0
StartsBy x r last b = RowsBy (λ us. StartsIn us b) x r last

-- the table and the start macros of an input, or that it is not of the form
pub record FillsBoth (i : Input) (table starts : List (List ℕ)) (n m : ℕ) : Type 0 where
  pub entries : List (List ℕ)
  pub names : List (List ℕ)
  pub shape : i ≡ formed entries names
  pub table_is : Filled table entries n
  pub starts_are : Filled starts names m

abbrev pub ParsedBy : Option (ℕ × ℕ) → Input → List (List ℕ) → List (List ℕ) → Type 0
ParsedBy (Some p) i table starts = FillsBoth i table starts p.0 p.1
ParsedBy None i table starts = i ≡ unformed
