-- Opens every definition that a hand-over is flattened by, for worked examples: `unfolding flattening`.
-- Assumes nothing.
use Prim.Native.Nat.{ℕ}
use Rattle.directive.specs.Words.{word_at}
use Rattle.directive.specs.Forms.{undef_form, read_at, value_of, form_at, undef_at}
use Rattle.definition.proofs.Computing.{defining}
use Rattle.store.specs.Stores.{define, undefine, encode, fits}
use Rattle.conditions.proofs.Computing.{conditioning}
use Rattle.form.specs.Forms.{parameter_forms, head_form, form_of}
use Rattle.macros.specs.Starting.{all_starts, started_from, starts_fit}
use Rattle.expand.proofs.Computing.{expanding}
use Rattle.places.specs.Places.{newlines, line_at, decimal}
use Rattle.blocks.specs.Blocks.{open_block, next_block, close_block}
use Rattle.copying.specs.Cursors.{cursor_past, cursor_behind}
use Rattle.handover.specs.Entries.{name_bytes, is_file_name, is_entry, all_entries, entry_of}
use Rattle.handover.specs.Sizes.{is_sound}
use Rattle.turns.specs.Acts.{conditional_act, taken_act, act_at}
use Rattle.turns.specs.Turns.{turn_at}
use Rattle.turns.specs.Runs.{run_for, power, measure, run_from, flattened}

unfoldable pub flattening : ℕ
unfolding defining expanding conditioning word_at undef_form read_at value_of form_at undef_at define undefine encode fits parameter_forms head_form form_of all_starts started_from starts_fit newlines line_at decimal open_block next_block close_block cursor_past cursor_behind name_bytes is_file_name is_entry all_entries entry_of is_sound conditional_act taken_act act_at turn_at run_for power measure run_from flattened
flattening = 0
