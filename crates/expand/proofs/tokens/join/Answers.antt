-- `expand::tokens::join` meets its contract: the string is added behind the first byte.
-- Assumes nothing.
use Rattle.expand.proofs.Spelling.{joined_fits}
use Rattle.expand.proofs.tokens.join.Goals as goal

pub returns-in-None : goal.returns-in-None
returns-in-None c = joined_fits _ _ c.args.w.now c.requires _ c.put_joined.ensures c.in-None.is
