-- `copying::past_token` meets its contract.
-- Assumes nothing.
use Rattle.copying.proofs.past_token.Goals as goal

pub returns-then-may_wrap : goal.returns-then-may_wrap
returns-then-may_wrap c = rw (← c.may_wrap.ensures, c.if-may_wrap.true) c.past_lines.ensures

pub returns : goal.returns
returns c = rw (← c.may_wrap.ensures, c.if-may_wrap.false) c.past_plain.ensures
