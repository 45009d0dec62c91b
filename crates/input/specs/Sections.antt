-- The printing program's input (01): "low byte first, three sections each after a two-byte count".
-- Assumes nothing.
use Rattle.std.specs.Prelude.{ℕ, zero, suc, ◌+◌, cond, ◌||◌, List, [], ◌∷◌, eqb, ltb, length, get_or}
use Rattle.text.specs.Bytes.{two_at}

-- rows of numbers and where they end in the input, or it is not of the form
pub data Rows : Type 0 where
  broken : Rows
  rows : List (List ℕ) → ℕ → Rows

abbrev pub also : List ℕ → Rows → Rows
also v broken = broken
also v (rows vs e) = rows (v ∷ vs) e

-- one row and where it ends in the input, or it is not of the form
pub data Row : Type 0 where
  misfit : Row
  fit : List ℕ → ℕ → Row

abbrev pub on_row : Row → (List ℕ → ℕ → Rows) → Rows
on_row misfit go = broken
on_row (fit v e) go = go v e

-- n rows from i on, each as f reads it
unfoldable pub rows_at : (List ℕ → ℕ → Row) → ℕ → List ℕ → ℕ → Rows
rows_at f zero s i = rows [] i
rows_at f (suc n) s i = on_row (f s i) (λ v e. also v (rows_at f n s e))

-- a name: "form 0 quoted or 1 angle, length byte, name"; its form, start and length
abbrev pub name_at : List ℕ → ℕ → Row
name_at s i =
    let size = get_or s (i + 1) 0 in
    cond (ltb (length s) (i + 2 + size) || ltb 1 (get_or s i 0)) misfit (fit (get_or s i 0 ∷ (i + 2) ∷ size ∷ []) (i + 2 + size))

-- a body: "two-byte length, bytes"; its start and length
abbrev pub body_at : List ℕ → ℕ → Row
body_at s i = let size = two_at s i in cond (ltb (length s) (i + 2 + size)) misfit (fit ((i + 2) ∷ size ∷ []) (i + 2 + size))

-- a macro name: "length byte, name"
abbrev pub start_at : List ℕ → ℕ → Row
start_at s i = let size = get_or s i 0 in cond (ltb (length s) (i + 1 + size)) misfit (fit ((i + 1) ∷ size ∷ []) (i + 1 + size))

-- an entry of the include table, of a name's row and a body's
abbrev pub entry_of : List ℕ → List ℕ → List ℕ
entry_of v w = get_or v 0 0 ∷ get_or v 1 0 ∷ get_or v 2 0 ∷ get_or w 0 0 ∷ get_or w 1 0 ∷ []

unfoldable pub entries_of : List (List ℕ) → List (List ℕ) → List (List ℕ)
entries_of [] ws = []
entries_of (v ∷ vs) [] = []
entries_of (v ∷ vs) (w ∷ ws) = entry_of v w ∷ entries_of vs ws

-- the include table and the start macros that an input gives
pub data Input : Type 0 where
  unformed : Input
  formed : List (List ℕ) → List (List ℕ) → Input

-- "Input not exactly so" is not of the form: nothing stands behind the last section
abbrev pub with_starts : List ℕ → List (List ℕ) → List (List ℕ) → Rows → Input
with_starts s vs ws broken = unformed
with_starts s vs ws (rows us e) = cond (eqb e (length s)) (formed (entries_of vs ws) us) unformed

abbrev pub with_bodies : List ℕ → List (List ℕ) → Rows → Input
with_bodies s vs broken = unformed
with_bodies s vs (rows ws e) =
    cond (ltb (length s) (e + 2)) unformed (with_starts s vs ws (rows_at start_at (two_at s e) s (e + 2)))

-- "bodies .., as many as names"
abbrev pub with_names : List ℕ → ℕ → Rows → Input
with_names s n broken = unformed
with_names s n (rows vs e) =
    cond (ltb (length s) (e + 2)) unformed
    (cond (eqb (two_at s e) n) (with_bodies s vs (rows_at body_at n s (e + 2))) unformed)

unfoldable pub input_of : List ℕ → Input
input_of s = cond (ltb (length s) 2) unformed (with_names s (two_at s 0) (rows_at name_at (two_at s 0) s 2))
