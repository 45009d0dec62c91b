-- Stored form (01, "Macros"): how a macro lies in the macro bytes.
-- Assumes nothing.
use Rattle.std.specs.Prelude.{ℕ, ◌/◌, ◌%◌, cond, List, [], ◌∷◌, ◌++◌, length}
use Rattle.std.proofs.Math.Option.{Option, none, some}
use Rattle.storing.specs.Stored.{stored}
use Rattle.definition.specs.declared.Formal.{Formal}
use Rattle.definition.specs.Definitions.{Parameter, parameter, Macro, macro}

-- "two bytes of length (low first)"
abbrev pub two : ℕ → List ℕ
two n = n % 256 ∷ n / 256 % 256 ∷ []

-- a length and so many bytes
abbrev pub sized : List ℕ → List ℕ
sized d = two (length d) ++ d

-- the default of a formal of a definition
abbrev pub default_by : List ℕ → Formal → Option (List ℕ)
default_by s f = cond f.given (some (stored s f.first f.stop)) none

-- "mark 0 or 1 for a default, two bytes of length, default"
abbrev pub default_form : Option (List ℕ) → List ℕ
default_form none = 0 ∷ two 0
default_form (some d) = 1 ∷ sized d

-- "per formal two bytes of length (low first), name, .."
abbrev pub parameter_form : Parameter → List ℕ
parameter_form (parameter n d) = sized n ++ default_form d

unfoldable pub parameter_forms : List Parameter → List ℕ
parameter_forms [] = []
parameter_forms (p ∷ ps) = parameter_form p ++ parameter_forms ps

-- "formal count, one byte; per formal .."
abbrev pub list_form : List Parameter → List ℕ
list_form ps = length ps ∷ parameter_forms ps

-- what stands before the text: "name without a leading `\`", and the formals
unfoldable pub head_form : List ℕ → List Parameter → List ℕ
head_form n ps = n ++ list_form ps

-- ".. then text"
unfoldable pub form_of : Macro → List ℕ
form_of (macro n ps t) = head_form n ps ++ t

-- where the text starts in a macro's stored form
unfoldable pub text_start : Macro → ℕ
text_start (macro n ps t) = length (head_form n ps)
