-- `genuine::ends_there` meets its contract.
-- Assumes nothing.
use Rattle.genuine.proofs.TestingRows.{rows_behind, bytes_behind, none_behind}
use Rattle.genuine.proofs.ends_there.Goals as goal

pub returns-then-not-all_blank : goal.returns-then-not-all_blank
returns-then-not-all_blank c = search rows_behind

pub returns-then-not-all_zero : goal.returns-then-not-all_zero
returns-then-not-all_zero c = search bytes_behind

pub returns : goal.returns
returns c = search none_behind
