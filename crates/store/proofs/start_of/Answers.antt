-- `store::start_of` meets its contract: a form ends where the next starts.
-- Assumes nothing.
use mathlib.Core.Path.{sym, ap, ◌∙◌}
use native.Mathlib.Omega.{arith}
use Rattle.store.proofs.Entries.{start, encode_none, end_is}
use Rattle.store.proofs.start_of.Goals as goal

pub returns-then-i-eq0 : goal.returns-then-i-eq0
returns-then-i-eq0 c ms b h = sym (ap (start ms) c.if-i-eq0.true ∙ encode_none)

pub overflow_add-result : goal.overflow_add-result
overflow_add-result c = omega (arith, c.read-r.ensures.small.text_small, c.read-r.ensures.small.size_small)

pub returns : goal.returns
returns c ms b h = end_is h c.args.i c.if-i-eq0.false c.requires c.read-r.ensures
