-- `macros::define_empty` meets its contract: the name is copied to the front of `form`, and a byte 0 behind it.
-- Assumes nothing.
use mathlib.Core.List.{[]}
use Rattle.definition.specs.Definitions.{macro}
use Rattle.macros.proofs.Emptying.{empty_form}
use Rattle.macros.proofs.define_empty.Goals as goal

pub define-requires : goal.define-requires
define-requires c = record { small = c.requires.0; few = c.requires.1; stored = c.requires.2; defined = macro c.args.w.now [] []; form-of = empty_form c.args.w.now c.args.form.now c.copy_from_slice.new.self c.requires.3 c.copy_from_slice.ensures.after c.part_of.ensures }

pub returns : goal.returns
returns c ms h = c.define.ensures ms (macro c.args.w.now [] []) h (empty_form c.args.w.now c.args.form.now c.copy_from_slice.new.self c.requires.3 c.copy_from_slice.ensures.after c.part_of.ensures)
