-- Some words of the directives' tables, and one of none.
-- Assumes nothing.
use mathlib.Core.Path.{◌≡◌, refl}
use Rattle.text.specs.Bytes.{bytes, same}
use Rattle.names.specs.Names.{Define, LineWord, OldEndKeywords, directive_of, state_of, other_of, number_in, macro_directives, state_directives, other_directives}

pub named :
    (directive_of (bytes "define") ≡ Define) × (directive_of (bytes "__LINE__") ≡ LineWord) ×
    (directive_of (bytes "endkeywords") ≡ OldEndKeywords)
unfolding directive_of state_of other_of number_in macro_directives state_directives other_directives bytes same
named = (refl, refl, refl)

pub unnamed : directive_of (bytes "foo") ≡ 0
unfolding directive_of state_of other_of number_in macro_directives state_directives other_directives bytes same
unnamed = refl
