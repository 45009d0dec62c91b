-- `records::no_table` meets its contract. Assumes nothing.
use Rattle.std.proofs.Common.{refl}
use Rattle.records.specs.Rows.{no_table}
use Rattle.records.proofs.no_table.Goals as goal

pub returns : goal.returns
unfolding no_table
returns c = refl
