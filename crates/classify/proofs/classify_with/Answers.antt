-- `classify::classify_with` meets its contract. The answer is made of what was listed.
-- Assumes nothing.
use Rattle.classify.proofs.classify_with.Goals as goal

pub returns : goal.returns
returns c = record { answer = rw (c.line_of.ensures, c.list_words-e.ensures.ended); list = c.list_words-e.ensures.list }
