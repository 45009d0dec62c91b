-- A definition in a text, read and stored.
-- Assumes nothing.
use Rattle.std.specs.Prelude.{ℕ, ◌≤◌, ◌<◌, cond, ◌≡◌, List, length}
use Rattle.definition.specs.Definitions.{Macro, Definition, barred, bad, good, definition_at}
use Rattle.store.specs.Stores.{define, fits}
use Rattle.store.specs.Buffers.{Holds, Stored}
use Rattle.macros.specs.declared.ReadIn.{ReadIn}
use Rattle.macros.specs.declared.ReadIn.TheVariants as read

-- 01's numbers and values for each case: barred by 2 to 6 at a place; bad (11); no room (12); or so many macros and its end
abbrev pub answer_to : ℕ → ℕ → List Macro → Definition → ReadIn
answer_to records bytes ms (barred n p) = read.Barred n p
answer_to records bytes ms (bad e) = read.Bad
answer_to records bytes ms (good m e) =
    cond (fits records bytes (define m ms)) (read.Done (length (define m ms)) e) read.NoRoom

-- the macros then: a refusal changes nothing
abbrev pub macros_after : ℕ → ℕ → List Macro → Definition → List Macro
macros_after records bytes ms (barred n p) = ms
macros_after records bytes ms (bad e) = ms
macros_after records bytes ms (good m e) = cond (fits records bytes (define m ms)) (define m ms) ms

-- what is lent to a definition in the text s: a store of 01's size; bytes for a name, for work and for a stored form
pub record Ready (s bytes : List ℕ) (records : List (List ℕ)) (count : ℕ) (name work form : List ℕ) : Type 0 where
  pub small : length bytes ≤ 65536
  pub few : count ≤ 256
  pub stored : Stored bytes records count
  pub name_long : 1025 ≤ length name
  pub work_long : length s < length work
  pub form_long : length bytes ≤ length form

-- the definition whose word ends at `at` is good and ends at e
pub record GoodAt (s : List ℕ) (at e : ℕ) : Type 0 where
  pub defined : Macro
  pub is_good : definition_at s at ≡ good defined e

-- the definition d was answered and carried out
pub record Reads (d : Definition) (ms : List Macro) (b b' : List ℕ) (r r' : List (List ℕ)) (a : ReadIn) : Type 0 where
  pub answer : a ≡ answer_to (length r) (length b) ms d
  pub holds : Holds (macros_after (length r) (length b) ms d) b' r' (length (macros_after (length r) (length b) ms d))
