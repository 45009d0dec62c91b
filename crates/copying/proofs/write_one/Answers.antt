-- `copying::write_one` meets its contract. One law for each answer.
-- Assumes nothing.
use Rattle.copying.proofs.Writing.{one_19, one_20, one_line, one_more}
use Rattle.copying.proofs.write_one.Goals as goal

pub returns-then-text-n : goal.returns-then-text-n
returns-then-text-n c = one_19 c.requires c.if-text-n.true

pub returns-then-map-l : goal.returns-then-map-l
returns-then-map-l c = one_20 c.requires c.if-text-n.false c.if-z.true c.if-map-l.true

pub returns-then-z : goal.returns-then-z
returns-then-z c = one_line c.requires c.if-text-n.false c.if-z.true c.if-map-l.false

pub returns : goal.returns
returns c = one_more c.requires c.if-text-n.false c.if-z.false
