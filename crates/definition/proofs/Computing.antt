-- Opens every definition that a `define` is read by, for worked examples: `unfolding defining`.
-- Assumes nothing.
use Prim.Native.Nat.{ℕ}
use Rattle.text.specs.Bytes.{same, holds}
use Rattle.lex.proofs.Computing.{computing}
use Rattle.names.specs.Names.{number_in, macro_directives, state_directives, other_directives, other_of, state_of, directive_of}
use Rattle.brackets.specs.Steps.{step_of}
use Rattle.storing.specs.Stored.{joined_from, piece, pieces, trim_left, trim_right, stored}
use Rattle.storing.specs.Graves.{grave_in, has_grave}
use Rattle.afresh.specs.Judging.{bad_in, bad_text, barred_in, bad_default}
use Rattle.definition.specs.Extents.{extent_in, extent_at, bars_of}
use Rattle.definition.specs.Heads.{gap_in, gap_end, open_at, head_at}
use Rattle.definition.specs.Lists.{step_at, default_in, default_end, formal_at, formals_from, formals_at}
use Rattle.definition.specs.Definitions.{parameters_of, bad_formal, named, bad_formals, definition_at}

unfoldable pub defining : ℕ
unfolding computing same holds number_in macro_directives state_directives other_directives other_of state_of directive_of joined_from piece pieces trim_left trim_right stored bad_in bad_text grave_in has_grave barred_in bad_default extent_in extent_at bars_of gap_in gap_end open_at head_at step_of step_at default_in default_end formal_at formals_from formals_at parameters_of bad_formal named bad_formals definition_at
defining = 0
