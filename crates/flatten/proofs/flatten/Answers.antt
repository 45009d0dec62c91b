-- `flatten::flatten` meets its contract.
-- Assumes nothing.
use Prim.Native.Nat.{ℕ}
use mathlib.Core.Path.{sym, ◌∙◌}
use native.Mathlib.Omega.{arith}
use borrow.Author.Tests.{not-true, not-false}
use lib.ListN.{length, length-replicate}
use Rattle.flatten.specs.Flattening.{hand_over}
use Rattle.flatten.proofs.Whole.{filled, not_sound, starts_ready, run_ready, flattens}
use Rattle.std.proofs.lemmas.Bool.{not_from_true, not_from_false}
use Rattle.flatten.proofs.flatten.Goals as goal

pub returns-then-not-is_sound : goal.returns-then-not-is_sound
returns-then-not-is_sound c =
    let a = c.args in
    not_sound (hand_over a.files.now a.table.now a.root a.starts.now a.set a.limit) _ _
    (sym (c.is_sound.ensures a.limit (length a.map.now)) ∙ not-true _ (not_from_false _ c.if-not-is_sound.true)) c.not_taken.ensures

pub slice_bounds-define_starts-end : goal.slice_bounds-define_starts-end
slice_bounds-define_starts-end c = sym (length-replicate {A = ℕ} 65536 0)

pub define_starts-n-requires : goal.define_starts-n-requires
define_starts-n-requires c =
    let a = c.args in
    starts_ready (hand_over a.files.now a.table.now a.root a.starts.now a.set a.limit) a.text.now a.map.now a.bytes.now _ a.records.now _
    (sym (c.is_sound.ensures a.limit (length a.map.now)) ∙ not-false _ (not_from_true _ c.if-not-is_sound.false))
    c.zero_store.auto.bytes c.zero_store.auto.records _ c.zero_store.ensures (omega (arith, filled 65536))

pub slice_bounds-run-end-2 : goal.slice_bounds-run-end-2
slice_bounds-run-end-2 c = sym (c.define_starts-n.auto.form ∙ length-replicate {A = ℕ} 65536 0)

pub run-requires : goal.run-requires
run-requires c =
    let a = c.args in
    run_ready (hand_over a.files.now a.table.now a.root a.starts.now a.set a.limit) a.text.now a.map.now a.bytes.now _ a.records.now _
    (sym (c.is_sound.ensures a.limit (length a.map.now)) ∙ not-false _ (not_from_true _ c.if-not-is_sound.false))
    (c.define_starts-n.auto.bytes ∙ c.zero_store.auto.bytes) (c.define_starts-n.auto.records ∙ c.zero_store.auto.records) _ _ _
    c.define_starts-n.ensures (filled 1025) (omega (arith, c.define_starts-n.auto.form, filled 65536))

pub shape_of-text : goal.shape_of-text
shape_of-text c = c.run.auto.text

pub shape_of-map : goal.shape_of-map
shape_of-map c = c.run.auto.map

pub shape_of-records : goal.shape_of-records
shape_of-records c = c.run.auto.records ∙ c.define_starts-n.auto.records ∙ c.zero_store.auto.records

pub shape_of-bytes : goal.shape_of-bytes
shape_of-bytes c = c.run.auto.bytes ∙ c.define_starts-n.auto.bytes ∙ c.zero_store.auto.bytes

pub returns : goal.returns
returns c =
    let a = c.args in
    flattens (hand_over a.files.now a.table.now a.root a.starts.now a.set a.limit) a.text.now a.map.now a.bytes.now _ a.records.now _
    (sym (c.is_sound.ensures a.limit (length a.map.now)) ∙ not-false _ (not_from_true _ c.if-not-is_sound.false))
    (c.define_starts-n.auto.bytes ∙ c.zero_store.auto.bytes) (c.define_starts-n.auto.records ∙ c.zero_store.auto.records) _ _
    (c.run.ensures a.starts.now c.define_starts-n.ensures)
