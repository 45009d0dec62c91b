-- The definition that spells a macro out: a text that, read, stores it.
-- Assumes nothing.
use Rattle.std.specs.Prelude.{ℕ, cond, List, [], ◌∷◌, ◌++◌, eqb}
use Rattle.std.proofs.Math.Option.{Option, none, some}
use Rattle.text.specs.Bytes.{bytes}
use Rattle.definition.specs.Definitions.{Parameter, parameter, Macro, macro}

-- a stored text as it stands in a definition: each newline as `\`newline
unfoldable pub spelled : List ℕ → List ℕ
spelled [] = []
spelled (x ∷ xs) = let r = spelled xs in cond (eqb x 10) (92 ∷ 10 ∷ r) (x ∷ r)

-- `=` and the default, with a space that ends an escaped name
abbrev pub spelled_default : Option (List ℕ) → List ℕ
spelled_default none = []
spelled_default (some d) = 61 ∷ (spelled d ++ (32 ∷ []))

abbrev pub spelled_parameter : Parameter → List ℕ
spelled_parameter (parameter f d) = f ++ spelled_default d

-- the formals from p on, up to `)`
unfoldable pub spelled_from : Parameter → List Parameter → List ℕ
spelled_from p [] = spelled_parameter p ++ (41 ∷ [])
spelled_from p (q ∷ ps) = spelled_parameter p ++ (44 ∷ spelled_from q ps)

-- without formals a space, so that a `(` begins the text
abbrev pub spelled_list : List Parameter → List ℕ
spelled_list [] = 32 ∷ []
spelled_list (p ∷ ps) = 40 ∷ spelled_from p ps

-- the name is written as an escaped one, which one white byte ends
unfoldable pub definition_of : Macro → List ℕ
definition_of (macro n ps t) = bytes "`define \\" ++ (n ++ (32 ∷ (spelled_list ps ++ spelled t)))

-- where its word `define` ends
abbrev pub word_end : ℕ
word_end = 7
