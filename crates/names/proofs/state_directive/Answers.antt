-- `names::state_directive` meets its contract. The tests on the way to each return are found by search.
-- Assumes nothing.
use Rattle.text.specs.Bytes.{bytes}
use Rattle.names.specs.Names.{state_of, state_directives}
use Rattle.names.proofs.Chains.{chain, number, past}
use Rattle.names.proofs.state_directive.Goals as goal

pub returns-then-same : goal.returns-then-same
unfolding bytes state_of state_directives
returns-then-same c = number (search chain)

pub returns-then-same-2 : goal.returns-then-same-2
unfolding bytes state_of state_directives
returns-then-same-2 c = number (search chain)

pub returns-then-same-3 : goal.returns-then-same-3
unfolding bytes state_of state_directives
returns-then-same-3 c = number (search chain)

pub returns-then-same-4 : goal.returns-then-same-4
unfolding bytes state_of state_directives
returns-then-same-4 c = number (search chain)

pub returns-then-same-5 : goal.returns-then-same-5
unfolding bytes state_of state_directives
returns-then-same-5 c = number (search chain)

pub returns-then-same-6 : goal.returns-then-same-6
unfolding bytes state_of state_directives
returns-then-same-6 c = number (past 4 (search chain) (search chain))

pub returns-then-same-7 : goal.returns-then-same-7
unfolding bytes state_of state_directives
returns-then-same-7 c = number (past 4 (search chain) (search chain))

pub returns-then-same-8 : goal.returns-then-same-8
unfolding bytes state_of state_directives
returns-then-same-8 c = number (past 4 (search chain) (search chain))

pub returns : goal.returns
unfolding bytes state_of state_directives
returns c = number (past 4 (search chain) (search chain))
