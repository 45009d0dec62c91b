-- What is done to a macro store, one deed after the other.
-- Assumes nothing.
use Rattle.std.specs.Prelude.{ℕ, List, [], ◌∷◌}
use Rattle.definition.specs.Definitions.{Macro, definition_at}
use Rattle.store.specs.Stores.{undefine}
use Rattle.genuine.specs.Spelling.{definition_of, word_end}
use Rattle.macros.specs.Looking.{plainly}
use Rattle.macros.specs.Defining.{macros_after}

pub data Deed : Type 0 where
  defines : List ℕ → ℕ → Deed  -- the definition in a text whose word ends there, stored or refused
  undefines : List ℕ → Deed  -- `undef` of a name
  undefines_all : Deed

-- the macros then, in so many lent records and bytes
abbrev pub after : ℕ → ℕ → Deed → List Macro → List Macro
after records bytes (defines s i) ms = macros_after records bytes ms (definition_at s i)
after records bytes (undefines w) ms = undefine (plainly w) ms
after records bytes undefines_all ms = []

unfoldable pub after_all : ℕ → ℕ → List Deed → List Macro → List Macro
after_all records bytes [] ms = ms
after_all records bytes (d ∷ ds) ms = after_all records bytes ds (after records bytes d ms)

-- the definitions that spell macros out, one after the other
unfoldable pub spellings : List Macro → List Deed
spellings [] = []
spellings (m ∷ ms) = defines (definition_of m) word_end ∷ spellings ms
