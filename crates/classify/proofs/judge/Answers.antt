-- `classify::judge` meets its contract: an answer other than `Short` is right, and the second try has enough bytes.
-- Assumes nothing.
use Rattle.brackets.proofs.Settling.{settled_full}
use Rattle.classify.proofs.judge.Goals as goal

pub returns-in_default : goal.returns-in_default
returns-in_default c = settled_full c.judge_definition-r.ensures c.in_default.not-Short
