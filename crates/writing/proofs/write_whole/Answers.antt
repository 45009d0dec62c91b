-- `writing::write_whole` meets its contract. One law for each answer.
-- Assumes nothing.
use Rattle.writing.proofs.Writing.{wrote_19, wrote_20, wrote_upto}
use Rattle.writing.proofs.write_whole.Goals as goal

pub returns-then-text-z : goal.returns-then-text-z
returns-then-text-z c = wrote_19 c.requires c.if-text-z.true

pub returns-then-map-z : goal.returns-then-map-z
returns-then-map-z c = wrote_20 c.requires c.if-text-z.false c.count_lines.ensures c.if-map-z.true

pub returns : goal.returns
returns c = wrote_upto c.requires c.if-text-z.false c.count_lines.ensures c.if-map-z.false c.write_bytes.ensures
