-- `names::nettype_of` meets its contract. The tests on the way to each return are found by search.
-- In the last two `let c` leaves the nearest test out, since search enters at most 128 records.
-- Assumes nothing.
use Rattle.text.specs.Bytes.{bytes}
use Rattle.names.specs.Names.{nettype_of}
use Rattle.names.proofs.Chains.{chain, number, past}
use Rattle.names.proofs.nettype_of.Goals as goal

pub returns-then-same : goal.returns-then-same
unfolding bytes nettype_of
returns-then-same c = number (search chain)

pub returns-then-same-2 : goal.returns-then-same-2
unfolding bytes nettype_of
returns-then-same-2 c = number (search chain)

pub returns-then-same-3 : goal.returns-then-same-3
unfolding bytes nettype_of
returns-then-same-3 c = number (search chain)

pub returns-then-same-4 : goal.returns-then-same-4
unfolding bytes nettype_of
returns-then-same-4 c = number (search chain)

pub returns-then-same-5 : goal.returns-then-same-5
unfolding bytes nettype_of
returns-then-same-5 c = number (search chain)

pub returns-then-same-6 : goal.returns-then-same-6
unfolding bytes nettype_of
returns-then-same-6 c = number (past 4 (search chain) (search chain))

pub returns-then-same-7 : goal.returns-then-same-7
unfolding bytes nettype_of
returns-then-same-7 c = number (past 4 (search chain) (search chain))

pub returns-then-same-8 : goal.returns-then-same-8
unfolding bytes nettype_of
returns-then-same-8 c = number (past 4 (search chain) (search chain))

pub returns-then-same-9 : goal.returns-then-same-9
unfolding bytes nettype_of
returns-then-same-9 c = number (past 4 (search chain) (search chain))

pub returns-then-same-10 : goal.returns-then-same-10
unfolding bytes nettype_of
returns-then-same-10 c = number (past 4 (search chain) (past 4 (search chain) (search chain)))

pub returns-then-same-11 : goal.returns-then-same-11
unfolding bytes nettype_of
returns-then-same-11 c = number (past 4 (let c = c in search chain) (past 4 (search chain) (search chain)))

pub returns : goal.returns
unfolding bytes nettype_of
returns c = number (past 4 (let c = c in search chain) (past 4 (search chain) (search chain)))
