-- `afresh::leaves_bad` meets its contract. It branches as its definition does.
-- Assumes nothing.
use Rattle.afresh.proofs.Verdicts.{leaves_name, leaves_doubt, leaves_other}
use Rattle.afresh.specs.Feeding.{state_of}
use Rattle.afresh.proofs.Feeding.{name_length}
use Rattle.afresh.proofs.leaves_bad.Goals as goal

pub returns-then-r : goal.returns-then-r
returns-then-r c w = rw (leaves_name (state_of c.args.r c.args.name.now w) c.if-r.true) (c.is_spoilt.ensures w)

pub returns-then-r-2 : goal.returns-then-r-2
returns-then-r-2 c w = rw (leaves_doubt (state_of c.args.r c.args.name.now w) c.if-r.false c.if-r-2.true, name_length c.args.r c.args.name.now w c.requires, c.is_spoilt-then-r-2.ensures w)

pub returns : goal.returns
returns c w = rw (leaves_other (state_of c.args.r c.args.name.now w) c.if-r.false c.if-r-2.false, c.is_string.ensures c.args.name.now w)
