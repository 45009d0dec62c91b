-- A macro without formals and text is fit if its name is.
-- Assumes nothing.
use Prim.Native.Nat.{ℕ}
use mathlib.Core.Bool.{true}
use mathlib.Core.List.{List, []}
use mathlib.Core.Path.{◌≡◌}
use Rattle.text.specs.Bytes.{same}
use Rattle.lex.specs.Tokens.{tokens_from, tokens}
use Rattle.storing.specs.Stored.{trim_left, trim_right}
use Rattle.afresh.specs.Unfit.{unfit_in, unfit_text}
use Rattle.definition.specs.Definitions.{macro}
use Rattle.genuine.specs.Fitness.{fit_name, fit_stored, fit_parameters, fit_macro}

pub empty_fit : (n : List ℕ) → fit_name n ≡ true → fit_macro (macro n [] []) ≡ true
unfolding fit_macro fit_parameters fit_stored same trim_left trim_right unfit_text unfit_in tokens tokens_from
empty_fit n e = rw e
