use Rattle.plan.specs.Given.{is_equals}
use Rattle.plan.proofs.Positions.{or_length}
use Rattle.plan.proofs.items.GivenMacro.split.Goals as goal
use Rattle.std.proofs.Common.{rules}

pub returns : goal.returns
returns c = let law = or_length is_equals c.args.self.now.word.items in search rules
