-- `afresh::read_word` meets its contract. It branches as its definition does.
-- Assumes nothing.
use Rattle.afresh.specs.States.{in_word}
use Rattle.afresh.proofs.read_word.Goals as goal

pub returns-then-is_run : goal.returns-then-is_run
unfolding in_word
returns-then-is_run c = simp (← c.is_run.ensures, c.if-is_run.true) (c.add_byte.ensures c.args.stack.now c.requires.depth)

pub returns : goal.returns
unfolding in_word
returns c = simp (← c.is_run.ensures, c.if-is_run.false) c.read_closed.ensures
