-- `store::order_at` meets its contract: the part of the bytes that is compared is the name.
-- Assumes nothing.
use mathlib.Core.Path.{ap, ◌∙◌}
use native.Mathlib.Omega.{arith}
use Rattle.text.specs.Order.{order_of}
use Rattle.store.proofs.Entries.{entry, part_name}
use Rattle.store.proofs.order_at.Goals as goal

pub overflow_add-r : goal.overflow_add-r
overflow_add-r c = omega (arith, c.read-r.ensures.small.start_small, c.read-r.ensures.small.name_small)

pub returns : goal.returns
returns c ms h =
    c.compare.ensures
    ∙ ap (order_of c.args.w.now) (c.part_of.ensures ∙ part_name (entry h c.args.i c.requires) c.read-r.ensures)
