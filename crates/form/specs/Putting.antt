-- Bytes written behind the first n of a buffer, all of them or none.
-- Assumes nothing.
use Rattle.std.specs.Prelude.{Option, Some, None, Result, Ok, Err, ℕ, ◌+◌, ◌<◌, ◌≤◌, ◌≡◌, ◌⊎◌, List, ◌++◌, length, take}
use Rattle.definition.specs.Lists.{Formals, whole}
use Rattle.definition.specs.Definitions.{Macro}
use Rattle.definition.specs.declared.Formal.{Formal}
use Rattle.definition.specs.declared.ReadError.{ReadError}
use Rattle.definition.specs.declared.ReadError.TheVariants.{IllFormed, NoRoom}
use Rattle.form.specs.Forms.{form_of, text_start}

-- the buffer o became o', ys put behind its first n, which are m then; what stands behind those is left open
pub record Put (o o' : List ℕ) (n m : ℕ) (ys : List ℕ) : Type 0 where
  pub count : m ≡ n + length ys
  pub fits : m ≤ length o
  pub bytes : take m o' ≡ take n o ++ ys

-- ys were put, or there is no room for them, or something else lacks
abbrev pub PutBy : Option ℕ → Type 0 → List ℕ → List ℕ → ℕ → List ℕ → Type 0
PutBy (Some m) lack o o' n ys = Put o o' n m ys
PutBy None lack o o' n ys = lack ⊎ (length o < n + length ys)

-- g are so many formals, and the text begins at x
pub record Listed (g : Formals) (count x : ℕ) : Type 0 where
  pub formals : List Formal
  pub shape : g ≡ whole formals x
  pub number : count ≡ length formals

-- the stored form of m was written from the first byte on, with its length and where its text starts; or the work
-- bytes are fewer than those of the text s, or the buffer is too short for it
pub record FormAt (m : Macro) (o o' : List ℕ) (k x : ℕ) : Type 0 where
  pub count : k ≡ length (form_of m)
  pub fits : k ≤ length o
  pub bytes : take k o' ≡ form_of m
  pub text : x ≡ text_start m

abbrev pub FormBy : Result (ℕ × ℕ) ReadError → List ℕ → List ℕ → Macro → List ℕ → List ℕ → Type 0
FormBy (Ok (k, x)) s work m o o' = FormAt m o o' k x
FormBy (Err NoRoom) s work m o o' = (length work < length s) ⊎ (length o < length (form_of m))
FormBy (Err IllFormed) s work m o o' = ⊥
