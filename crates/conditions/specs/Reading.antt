-- What the code reads of a condition, by the macros that the lent store holds.
-- Assumes nothing.
use Rattle.std.specs.Prelude.{ℕ, Bool, cond, not, List, ◌≡◌}
use Rattle.definition.specs.Definitions.{Macro}
use Rattle.store.specs.Buffers.{Holds}
use Rattle.conditions.specs.Grammar.{Condition, is_defined}

-- negated after an odd number of `!`
abbrev pub differs : Bool → Bool → Bool
differs odd v = cond odd (not v) v

-- r is the part of a condition that stands there, where n macros are defined, in the bytes b and records rows
abbrev pub Reads : Condition → ((List ℕ → Bool) → Condition) → List ℕ → List (List ℕ) → ℕ → Type 0
Reads r part b rows n = (ms : List Macro) → Holds ms b rows n → r ≡ part (is_defined ms)
