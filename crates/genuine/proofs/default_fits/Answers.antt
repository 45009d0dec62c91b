-- `genuine::default_fits` meets its contract.
-- Assumes nothing.
use Rattle.genuine.proofs.TestingFormals.{default_short, default_none, default_odd, default_by}
use Rattle.genuine.proofs.default_fits.Goals as goal

pub returns-then-peek-eq0 : goal.returns-then-peek-eq0
returns-then-peek-eq0 c = search default_none

pub returns-then-peek-ne1 : goal.returns-then-peek-ne1
returns-then-peek-ne1 c = default_odd _ _ c.mark_at-m.ensures c.two_at-n.ensures c.peek.ensures c.if-peek-eq0.false c.peek-2.ensures c.if-peek-ne1.true

pub is_fit_stored-requires : goal.is_fit_stored-requires
is_fit_stored-requires c = (default_short _ _ c.mark_at-m.ensures c.two_at-n.ensures c.part_of.ensures, c.requires.1, c.requires.2)

pub returns : goal.returns
returns c = default_by _ _ c.mark_at-m.ensures c.two_at-n.ensures c.peek.ensures c.if-peek-eq0.false c.peek-2.ensures c.if-peek-ne1.false c.part_of.ensures c.is_fit_stored.ensures
