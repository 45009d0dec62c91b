-- The lent records and bytes as functions of the macros stored: "bytes and records past the last are zero".
-- Assumes nothing.
use Rattle.std.specs.Prelude.{ℕ, ◌+◌, ◌-◌, ◌<◌, ◌≤◌, ◌≡◌, Bool, cond, List, [], ◌∷◌, ◌++◌, length, replicate, Option, Some, None}
use Rattle.definition.specs.Definitions.{Macro}
use Rattle.form.specs.Forms.{form_of, text_start}
use Rattle.packed.specs.Records.{blank_record}
use Rattle.store.specs.Stores.{macro_name, macro_text, macro_at, encode, fits}

-- "Records, in the same order: start, name length, text start, text length"; the form starts at a
abbrev pub row_of : ℕ → Macro → List ℕ
row_of a m = a ∷ length (macro_name m) ∷ (a + text_start m) ∷ length (macro_text m) ∷ []

unfoldable pub rows_from : ℕ → List Macro → List (List ℕ)
rows_from a [] = []
rows_from a (m ∷ ms) = row_of a m ∷ rows_from (a + length (form_of m)) ms

-- a list, with blanks behind it, n long
abbrev pub padded : {A : Type 0} → A → ℕ → List A → List A
padded blank n l = l ++ replicate (n - length l) blank

-- the lent bytes b and records r hold the macros ms, n of them
pub record Holds (ms : List Macro) (b : List ℕ) (r : List (List ℕ)) (n : ℕ) : Type 0 where
  pub bytes : b ≡ padded 0 (length b) (encode ms)
  pub rows : r ≡ padded blank_record (length r) (rows_from 0 ms)
  pub count : n ≡ length ms

-- they hold some macros
pub record Stored (b : List ℕ) (r : List (List ℕ)) (n : ℕ) : Type 0 where
  pub macros : List Macro
  pub holds : Holds macros b r n

-- a stored form with its name's length and where its text starts is that of m
pub record FormIs (m : Macro) (form : List ℕ) (name text : ℕ) : Type 0 where
  pub form_is : form ≡ form_of m
  pub name_is : name ≡ length (macro_name m)
  pub text_is : text ≡ text_start m

-- what is lent to a definition: buffers of 01's size that hold macros, at most 256, and a stored form
pub record Lent (b : List ℕ) (r : List (List ℕ)) (n : ℕ) (form : List ℕ) (name text : ℕ) : Type 0 where
  pub small : length b ≤ 65536
  pub few : n ≤ 256
  pub stored : Stored b r n
  pub defined : Macro
  pub form-of : FormIs defined form name text

-- .. with room for one macro more, at i
pub record Inserts (b : List ℕ) (r : List (List ℕ)) (n i : ℕ) (form : List ℕ) (name text : ℕ) : Type 0 where
  pub lent : Lent b r n form name text
  pub place : i ≤ n
  pub row : n < length r
  pub room : length (encode lent.stored.macros) + length form ≤ length b

-- .. with room for it in the place of macro i
pub record Replaces (b : List ℕ) (r : List (List ℕ)) (n i : ℕ) (form : List ℕ) (name text : ℕ) : Type 0 where
  pub lent : Lent b r n form name text
  pub place : i < n
  pub room : length (encode lent.stored.macros) - length (form_of (macro_at lent.stored.macros i)) + length form ≤ length b

-- the answer to a definition that makes the macros ms: their number, or that there is no room
abbrev pub defined_by : Bool → List Macro → Option ℕ
defined_by fit ms = cond fit (Some (length ms)) None

-- a definition that would make `new` of the macros ms was carried out, or refused for want of room, which changes nothing
pub record Defines (recordsLent bytesLent : ℕ) (new ms : List Macro) (b : List ℕ) (r : List (List ℕ)) (a : Option ℕ) : Type 0 where
  pub answer : a ≡ defined_by (fits recordsLent bytesLent new) new
  pub holds : Holds (cond (fits recordsLent bytesLent new) new ms) b r (length (cond (fits recordsLent bytesLent new) new ms))
