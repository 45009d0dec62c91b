-- `store::form_at` meets its contract: a record's form is a part of the bytes.
-- Assumes nothing.
use mathlib.Core.Path.{◌∙◌}
use native.Mathlib.Omega.{arith}
use Rattle.store.proofs.Entries.{entry, part_form}
use Rattle.store.proofs.form_at.Goals as goal

pub overflow_add-r : goal.overflow_add-r
overflow_add-r c = omega (arith, c.read-r.ensures.small.text_small, c.read-r.ensures.small.size_small)

pub returns : goal.returns
returns c ms h = c.part_of.ensures ∙ part_form (entry h c.args.i c.requires) c.read-r.ensures
