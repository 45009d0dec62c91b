-- `pass::token_fault` meets its contract.
-- Assumes nothing.
use Rattle.pass.proofs.Faults.{token_usage, token_other}
use Rattle.pass.proofs.token_fault.Goals as goal

pub returns-then-is_usage : goal.returns-then-is_usage
returns-then-is_usage c ms p ps h e = token_usage c.args.b.now c.args.list.now c.args.n c.args.k c.requires.2 c.requires.1.filled p ps e c.pend_of-p.ensures ms c.is_usage.ensures c.if-is_usage.true c.name_of-w.ensures (c.usage_fault.ensures ms h)

pub returns : goal.returns
returns c ms p ps h e = token_other c.args.b.now c.args.list.now c.args.n c.args.k c.requires.2 c.requires.1.filled p ps e c.pend_of-p.ensures ms c.is_usage.ensures c.if-is_usage.false
