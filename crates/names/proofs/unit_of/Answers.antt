-- `names::unit_of` meets its contract. The tests on the way to each return are found by search.
-- Assumes nothing.
use Rattle.text.specs.Bytes.{bytes}
use Rattle.names.specs.Names.{unit_of}
use Rattle.names.proofs.Chains.{chain, number, past}
use Rattle.names.proofs.unit_of.Goals as goal

pub returns-then-same : goal.returns-then-same
unfolding bytes unit_of
returns-then-same c = number (search chain)

pub returns-then-same-2 : goal.returns-then-same-2
unfolding bytes unit_of
returns-then-same-2 c = number (search chain)

pub returns-then-same-3 : goal.returns-then-same-3
unfolding bytes unit_of
returns-then-same-3 c = number (search chain)

pub returns-then-same-4 : goal.returns-then-same-4
unfolding bytes unit_of
returns-then-same-4 c = number (search chain)

pub returns-then-same-5 : goal.returns-then-same-5
unfolding bytes unit_of
returns-then-same-5 c = number (search chain)

pub returns-then-same-6 : goal.returns-then-same-6
unfolding bytes unit_of
returns-then-same-6 c = number (past 4 (search chain) (search chain))

pub returns : goal.returns
unfolding bytes unit_of
returns c = number (past 4 (search chain) (search chain))
