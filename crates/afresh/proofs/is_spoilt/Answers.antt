-- `afresh::is_spoilt` meets its contract. The name is empty, or its directive is looked up.
-- Assumes nothing.
use Rattle.afresh.proofs.Verdicts.{spoilt_plain, spoilt_empty, spoilt_named}
use Rattle.afresh.proofs.is_spoilt.Goals as goal

pub returns-then-not-r : goal.returns-then-not-r
returns-then-not-r c w = spoilt_plain c.args.r c.args.name.now w c.if-not-r.true

pub returns-then-r-eq0 : goal.returns-then-r-eq0
returns-then-r-eq0 c w = spoilt_empty c.args.r c.args.name.now w c.if-not-r.false c.if-r-eq0.true

pub returns : goal.returns
returns c w = spoilt_named c.args.r c.args.name.now w c.if-not-r.false c.if-r-eq0.false c.requires _ c.part_of.ensures _ c.directive_of.ensures
