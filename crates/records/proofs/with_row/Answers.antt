-- `records::with_row` meets its contract. Assumes nothing.
use Rattle.std.proofs.Common.{refl}
use Rattle.records.specs.Rows.{with_row}
use Rattle.records.proofs.with_row.Goals as goal

pub returns : goal.returns
unfolding with_row
returns c = refl
