-- `names::version_of` meets its contract. The tests on the way to each return are found by search.
-- Assumes nothing.
use Rattle.text.specs.Bytes.{bytes}
use Rattle.names.specs.Names.{version_of}
use Rattle.names.proofs.Chains.{chain, number}
use Rattle.names.proofs.version_of.Goals as goal

pub returns-then-same : goal.returns-then-same
unfolding bytes version_of
returns-then-same c = number (search chain)

pub returns-then-same-2 : goal.returns-then-same-2
unfolding bytes version_of
returns-then-same-2 c = number (search chain)

pub returns-then-same-3 : goal.returns-then-same-3
unfolding bytes version_of
returns-then-same-3 c = number (search chain)

pub returns-then-same-4 : goal.returns-then-same-4
unfolding bytes version_of
returns-then-same-4 c = number (search chain)

pub returns : goal.returns
unfolding bytes version_of
returns c = number (search chain)
