-- `handover::is_sound` meets its contract.
-- Assumes nothing.
use Rattle.handover.proofs.Walking.{sound_unfilled, sound_unsized, sound_unlisted, sound_started}
use Rattle.std.proofs.lemmas.Bool.{not_from_true, not_from_false}
use Rattle.handover.proofs.is_sound.Goals as goal

pub returns-then-table : goal.returns-then-table
returns-then-table c limit map = sound_unfilled _ _ c.if-table.true

pub returns-then-table-root : goal.returns-then-table-root
returns-then-table-root c limit map = sound_unsized _ _ c.if-table.false c.if-table-root.true

pub returns-then-not-all_entries : goal.returns-then-not-all_entries
returns-then-not-all_entries c limit map = sound_unlisted _ _ c.if-table.false c.if-table-root.false c.all_entries.ensures (not_from_false _ c.if-not-all_entries.true)

pub returns : goal.returns
returns c limit map = sound_started _ _ c.if-table.false c.if-table-root.false c.all_entries.ensures (not_from_true _ c.if-not-all_entries.false) c.starts_fit.ensures
