-- Which macros some definition stores (01: "a store that no definitions leave").
-- Assumes nothing.
use Rattle.std.specs.Prelude.{ℕ, Bool, true, false, cond, not, ◌&&◌, List, [], ◌∷◌, leb, ltb, length}
use Rattle.std.proofs.Math.Option.{Option, none, some}
use Rattle.text.specs.Bytes.{same}
use Rattle.lex.specs.Classes.{is_start, is_run}
use Rattle.names.specs.Names.{is_directive}
use Rattle.storing.specs.Stored.{trim_left, trim_right}
use Rattle.afresh.specs.Unfit.{is_unfit_as}
use Rattle.definition.specs.Definitions.{Parameter, parameter, Macro, macro}

-- "name 1,024 bytes"
abbrev pub is_short : List ℕ → Bool
is_short n = ltb 0 (length n) && leb (length n) 1024

-- bytes of an escaped name: legal and no white space
unfoldable pub all_solid : List ℕ → Bool
all_solid [] = true
all_solid (x ∷ xs) = (leb 33 x && leb x 126) && all_solid xs

-- a macro's name
unfoldable pub fit_name : List ℕ → Bool
fit_name n = is_short n && (all_solid n && not (is_directive n))

-- "letters, digits, `_`, `$`"
unfoldable pub all_run : List ℕ → Bool
all_run [] = true
all_run (x ∷ xs) = is_run 36 x && all_run xs

abbrev pub is_plain : List ℕ → Bool
is_plain [] = false
is_plain (x ∷ xs) = is_start x && all_run xs

-- a formal's name is a plain one
unfoldable pub fit_formal : List ℕ → Bool
fit_formal n = is_short n && is_plain n

-- "white space and newlines at both ends dropped"
abbrev pub is_trimmed : List ℕ → Bool
is_trimmed w = same (trim_right (trim_left w)) w

-- a stored text, or else a stored default
unfoldable pub fit_stored : Bool → List ℕ → Bool
fit_stored text w = is_trimmed w && not (is_unfit_as text w)

abbrev pub fit_default : Option (List ℕ) → Bool
fit_default none = true
fit_default (some d) = fit_stored false d

-- whether a formal has that name
unfoldable pub is_named : List ℕ → List Parameter → Bool
is_named n [] = false
is_named n (parameter f d ∷ ps) = let r = is_named n ps in cond (same n f) true r

abbrev pub fit_parameter : Parameter → List Parameter → Bool
fit_parameter (parameter f d) ps = fit_formal f && (fit_default d && not (is_named f ps))

-- none of them twice
unfoldable pub fit_parameters : List Parameter → Bool
fit_parameters [] = true
fit_parameters (p ∷ ps) = fit_parameter p ps && fit_parameters ps

unfoldable pub fit_macro : Macro → Bool
fit_macro (macro n ps t) = fit_name n && (leb (length ps) 16 && (fit_parameters ps && fit_stored true t))

unfoldable pub all_fit : List Macro → Bool
all_fit [] = true
all_fit (m ∷ ms) = fit_macro m && all_fit ms
