-- `names::drive_of` meets its contract. The tests on the way to each return are found by search.
-- Assumes nothing.
use Rattle.text.specs.Bytes.{bytes}
use Rattle.names.specs.Names.{drive_of}
use Rattle.names.proofs.Chains.{chain, number}
use Rattle.names.proofs.drive_of.Goals as goal

pub returns-then-same : goal.returns-then-same
unfolding bytes drive_of
returns-then-same c = number (search chain)

pub returns-then-same-2 : goal.returns-then-same-2
unfolding bytes drive_of
returns-then-same-2 c = number (search chain)

pub returns : goal.returns
unfolding bytes drive_of
returns c = number (search chain)
