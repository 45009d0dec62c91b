-- Worked examples of classify's outcome. A word is its offset, its length, and 1 if it is reserved.
-- Sets: 1 is 1364-2001, 3 is 1800-2005; the last number of `outcomeOf` is the room for words.
-- Assumes nothing.
use Prim.Native.Nat.{ℕ}
use mathlib.Core.List.{List, [], ◌∷◌}
use mathlib.Core.Path.{◌≡◌, refl}
use Rattle.text.specs.Bytes.{bytes, same}
use Rattle.lex.proofs.Computing.{computing}
use Rattle.keywords.specs.Keywords.{keywords, reserved_in, is_reserved}
use Rattle.names.specs.Names.{number_in, macro_directives, state_directives, other_directives, other_of, state_of, directive_of, version_of}
use Rattle.directive.specs.Words.{word_at}
use Rattle.directive.specs.Forms.{entry_form, read_at, value_of, form_at}
use Rattle.conditions.proofs.Computing.{conditioning}
use Rattle.storing.specs.Stored.{piece, pieces, trim_left, trim_right, stored}
use Rattle.afresh.specs.Judging.{bad_in, bad_text}
use Rattle.definition.specs.Extents.{extent_in, extent_at, bars_of}
use Rattle.definition.specs.Heads.{gap_in, gap_end, open_at, head_at}
use Rattle.definition.specs.Definitions.{parameters_of, bad_formals, definition_at}
use Rattle.places.specs.Places.{newlines, line_at}
use Rattle.classify.specs.Words.{Words, ends, past_directive, past_grave, words_from, words_of}
use Rattle.classify.specs.Answer.{outcome_of, refused_line, answer_of}

-- opens every definition that the examples compute
unfoldable outcome : ℕ
unfolding computing same keywords reserved_in is_reserved number_in macro_directives state_directives other_directives other_of state_of directive_of version_of conditioning word_at entry_form read_at value_of form_at piece pieces trim_left trim_right stored bad_in bad_text extent_in extent_at bars_of gap_in gap_end open_at head_at parameters_of bad_formals definition_at past_directive past_grave words_from words_of outcome_of newlines line_at refused_line
outcome = 0

-- these words and no refusal
abbrev only : List (List ℕ) → Words
only ws = record { words = ws; number = 0; place = 0 }

-- reserved in 1800-2005
pub reserved : outcome_of 3 (bytes "logic") 1 ≡ only ((0 ∷ 5 ∷ 1 ∷ []) ∷ [])
unfolding outcome
reserved = refl

-- not reserved in 1364-2001
pub unreserved : outcome_of 1 (bytes "logic") 1 ≡ only ((0 ∷ 5 ∷ 0 ∷ []) ∷ [])
unfolding outcome
unreserved = refl

-- `begin_keywords` governs up to `end_keywords`, and neither gives words
pub versions : outcome_of 3 (bytes "`begin_keywords \"1364-2001\"\nlogic `end_keywords logic") 2 ≡ only ((28 ∷ 5 ∷ 0 ∷ []) ∷ (48 ∷ 5 ∷ 1 ∷ []) ∷ [])
unfolding outcome
versions = refl

-- a definition gives no words
pub defined : outcome_of 3 (bytes "`define f logic\nx") 2 ≡ only ((16 ∷ 1 ∷ 0 ∷ []) ∷ [])
unfolding outcome
defined = refl

-- of an ill_formed directive only its word is skipped
pub ill_formed : outcome_of 3 (bytes "`begin_keywords logic") 2 ≡ only ((16 ∷ 5 ∷ 1 ∷ []) ∷ [])
unfolding outcome
ill_formed = refl

-- a condition gives no words; of an ill_formed one only the directive's word is skipped
pub condition : outcome_of 3 (bytes "`ifdef (A && logic) x") 2 ≡ only ((20 ∷ 1 ∷ 0 ∷ []) ∷ [])
unfolding outcome
condition = refl

pub ill_condition : outcome_of 3 (bytes "`ifdef (A & logic)") 2 ≡ only ((8 ∷ 1 ∷ 0 ∷ []) ∷ (12 ∷ 5 ∷ 1 ∷ []) ∷ [])
unfolding outcome
ill_condition = refl

-- a grave accent that begins no token: 4, on its line and at its byte, behind the words before it
pub stray_grave : answer_of (bytes "a\n`") (outcome_of 3 (bytes "a\n`") 2) ≡ record { number = 4; line = 2; byte = 2; words = 1 }
unfolding outcome
stray_grave = refl

-- no such set
pub no_set : outcome_of 4 (bytes "logic") 1 ≡ ends 1 0
unfolding outcome
no_set = refl

-- no room for a word: 21 at its byte
pub no_room : outcome_of 3 (bytes " a") 0 ≡ ends 21 1
unfolding outcome
no_room = refl
