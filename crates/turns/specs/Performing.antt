-- Acts carried out.
-- Assumes nothing.
use Rattle.std.specs.Prelude.{true, false, cond, [], ◌∷◌}
use Rattle.text.specs.Bytes.{part}
use Rattle.store.specs.Stores.{define, fits}
use Rattle.settings.specs.Settings.{set_by}
use Rattle.writing.specs.Written.{placed}
use Rattle.copying.specs.Cursors.{opening, cursor_past}
use Rattle.turns.specs.States.{Turn, Here, refuse, refuse_at, frames_at, behind, go_to, write, place_here}
use Rattle.turns.specs.Acts.{Act, refuses, leaves, copies, skips, hides, branches, defines, undefines, includes, keeps, spells, expands}
use Rattle.turns.specs.Usages.{usage_turn}

abbrev pub perform : Here → Act → Turn
perform h (refuses n p) = refuse_at h n p
-- "A file that ends in a copied `//` comment gets a newline written"
perform h leaves =
    cond h.frame.cursor.comment (write h (placed 1 (place_here h) (10 ∷ [])) h.others h.state.settings)
    (go_to h h.others h.state.conds h.state.macros)
-- "All else is copied"
perform h copies =
    write h (placed 1 (place_here h) (part h.body h.frame.cursor.at h.token.end))
    (frames_at h (cursor_past h.body true h.token h.frame.cursor)) h.state.settings
-- "write nothing, nor does an ignored block, its newlines included"
perform h skips = go_to h (frames_at h (cursor_past h.body false h.token h.frame.cursor)) h.state.conds h.state.macros
perform h (hides e) = go_to h (behind h e) h.state.conds h.state.macros
perform h (branches cs e) = go_to h (behind h e) cs h.state.macros
-- 12: "a 257th macro, or records or macro bytes too short"
perform h (defines m e) =
    let ms = define m h.state.macros in
    cond (fits h.context.records h.context.bytes ms) (go_to h (behind h e) h.state.conds ms) (refuse h 12)
perform h (undefines ms e) = go_to h (behind h e) h.state.conds ms
-- "is replaced by the file"
perform h (includes i e) = go_to h (record { file = i; cursor = opening } ∷ behind h e) h.state.conds h.state.macros
-- "Copied as written, each one token, and kept as state"
perform h (keeps v e) =
    write h (placed 1 (place_here h) (part h.body h.token.at e)) (behind h e) (set_by v h.context.set h.state.settings)
perform h (spells w) = write h (placed 0 (place_here h) w) (behind h h.token.end) h.state.settings
perform h expands = usage_turn h
