-- `flatten::run` meets its contract.
-- Assumes nothing.
use Prim.Native.Nat.{ℕ}
use mathlib.Core.Path.{sym}
use lib.ListN.{length-replicate}
use Rattle.steps.specs.Standing.{bufs}
use Rattle.flatten.proofs.Whole.{filled, start_going, run_leaves}
use Rattle.flatten.proofs.run.Goals as goal

pub slice_bounds-run_on-end-6 : goal.slice_bounds-run_on-end-6
slice_bounds-run_on-end-6 c = sym (length-replicate {A = ℕ} 16384 0)

pub slice_bounds-run_on-end-7 : goal.slice_bounds-run_on-end-7
slice_bounds-run_on-end-7 c = sym (length-replicate {A = ℕ} 65539 0)

pub run_on-l-requires : goal.run_on-l-requires
run_on-l-requires c = (
  start_going c.requires _ _ _ _ _ _ c.started_at.ensures (filled 16) (filled 32),
  record {
    list_lent = filled 1024;
    out_lent = filled 1024;
    ranges_lent = filled 256;
    stack_lent = filled 16384;
    work_lent = filled 65539;
    quoted_lent = filled 257;
    decimal_lent = filled 6;
    name_lent = c.requires.name_lent;
    form_lent = c.requires.form_lent;
  },
)

pub shape_of-text : goal.shape_of-text
shape_of-text c = c.run_on-l.auto.text

pub shape_of-map : goal.shape_of-map
shape_of-map c = c.run_on-l.auto.map

pub shape_of-records : goal.shape_of-records
shape_of-records c = c.run_on-l.auto.records

pub shape_of-bytes : goal.shape_of-bytes
shape_of-bytes c = c.run_on-l.auto.bytes

pub shape_of-name : goal.shape_of-name
shape_of-name c = c.run_on-l.auto.name

pub shape_of-form : goal.shape_of-form
shape_of-form c = c.run_on-l.auto.form

pub returns : goal.returns
returns c starts h =
    run_leaves _ _ starts _ _ _ _ _ _ _ _ _ _ _ _ _
    (bufs c.run_on-l.new.text c.run_on-l.new.map c.run_on-l.new.bytes c.run_on-l.new.records c.run_on-l.new.frames c.run_on-l.new.conds)
    _ _ c.requires c.started_at.ensures h c.run_on-l.ensures c.answer.ensures
