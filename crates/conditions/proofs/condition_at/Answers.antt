-- `conditions::condition_at` meets its contract.
-- Assumes nothing.
use native.Mathlib.Omega.{arith}
use Rattle.conditions.specs.Grammar.{condition_at}
use Rattle.conditions.proofs.Signs.{byte_inside}
use Rattle.conditions.proofs.Closing.{opens, names}
use Rattle.conditions.proofs.condition_at.Goals as goal

pub parentheses-requires : goal.parentheses-requires
parentheses-requires c = (byte_inside c.args.s.now c.next_token-i.result 40 (omega arith) c.peek.ensures c.if-peek-eq40.true, c.requires)

pub returns-then-peek-eq40 : goal.returns-then-peek-eq40
unfolding condition_at
returns-then-peek-eq40 c ms h = rw (← c.next_token-i.ensures) (opens _ 32 _ _ c.peek.ensures c.if-peek-eq40.true c.parentheses.ensures ms h)

pub returns : goal.returns
unfolding condition_at
returns c ms h = rw (← c.next_token-i.ensures) (names _ 32 _ _ c.peek.ensures c.if-peek-eq40.false c.name_at.ensures ms h)
