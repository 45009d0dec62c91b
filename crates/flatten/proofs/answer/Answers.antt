-- `flatten::answer` meets its contract.
-- Assumes nothing.
use Rattle.store.proofs.Places.{live_all}
use Rattle.flatten.proofs.answer.Goals as goal

pub returns : goal.returns
returns c ms b h = rw (c.refused_line.ensures, live_all h (c.start_of.ensures ms b h))
