-- The stored form of `` `define MAX(a,b=1) a``, byte by byte.
-- Assumes nothing.
use mathlib.Core.List.{[], ◌∷◌, ◌++◌}
use mathlib.Core.Option.{none, some}
use mathlib.Core.Path.{◌≡◌, refl}
use Rattle.text.specs.Bytes.{bytes}
use Rattle.definition.specs.Definitions.{Macro, macro, parameter, good, definition_at}
use Rattle.definition.proofs.Computing.{defining}
use Rattle.form.specs.Forms.{parameter_forms, head_form, form_of, text_start}

abbrev max : Macro
max = macro (bytes "MAX") (parameter (bytes "a") none ∷ parameter (bytes "b") (some (bytes "1")) ∷ []) (bytes "a")

-- the macro, and the definition's end, where its newline stands
pub defined : definition_at (bytes "`define MAX(a,b=1) a\n") 7 ≡ good max 20
unfolding defining
defined = refl

-- its name; two formals: `a` without a default, `b` with one of one byte; its text
pub formed : form_of max ≡ bytes "MAX" ++ (2 ∷ 1 ∷ 0 ∷ 97 ∷ 0 ∷ 0 ∷ 0 ∷ 1 ∷ 0 ∷ 98 ∷ 1 ∷ 1 ∷ 0 ∷ 49 ∷ []) ++ bytes "a"
unfolding defining parameter_forms head_form form_of
formed = refl

-- where the text starts
pub text-start : text_start max ≡ 17
unfolding defining parameter_forms head_form text_start
text-start = refl
