-- `copying::write_plain` meets its contract. One law for each answer.
-- Assumes nothing.
use Rattle.copying.proofs.Writing.{plain_19, plain_20, plain_line, plain_more}
use Rattle.copying.proofs.write_plain.Goals as goal

pub returns-then-text-n : goal.returns-then-text-n
returns-then-text-n c = plain_19 c.requires c.if-text-n.true

pub returns-then-map-l : goal.returns-then-map-l
returns-then-map-l c = plain_20 c.requires c.if-text-n.false c.if-z.true c.if-map-l.true

pub returns-then-z : goal.returns-then-z
returns-then-z c = plain_line c.requires c.if-text-n.false c.if-z.true c.if-map-l.false c.copy_bytes.ensures

pub returns : goal.returns
returns c = plain_more c.requires c.if-text-n.false c.if-z.false c.copy_bytes-2.ensures
