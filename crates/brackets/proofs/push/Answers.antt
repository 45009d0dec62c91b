-- `brackets::push` meets its contract. The stack with one digit more.
-- Assumes nothing.
use mathlib.Core.Logic.{inl, inr}
use Prim.Native.Nat.{◌/◌, ◌%◌}
use native.Mathlib.Omega.{arith}
use lib.ListN.{get_or}
use Rattle.brackets.specs.Stacks.{digit_of}
use Rattle.brackets.proofs.Digits.{weight_some, digit_small, digit_fits, with_fits}
use Rattle.brackets.proofs.Stacking.{pushed}
use Rattle.brackets.proofs.push.Goals as goal

pub returns-then-stack-i : goal.returns-then-stack-i
returns-then-stack-i c = inl (omega arith)

pub returns-then-depth-eq18446744073709551615 : goal.returns-then-depth-eq18446744073709551615
returns-then-depth-eq18446744073709551615 c = inr (omega arith)

pub nonzero_rem-stack : goal.nonzero_rem-stack
nonzero_rem-stack c = rw c.weight-w.ensures (weight_some (c.args.depth % 4))

pub overflow_mul-stack : goal.overflow_mul-stack
overflow_mul-stack c = rw (c.weight-w.ensures, c.digit_of.ensures) (record { fits = digit_fits (digit_of c.args.b) (c.args.depth % 4) (digit_small c.args.b) })

pub overflow_add-stack : goal.overflow_add-stack
overflow_add-stack c = rw (c.weight-w.ensures, c.digit_of.ensures) (record { fits = with_fits (get_or c.args.stack.now (c.args.depth / 4) 0) (digit_of c.args.b) (c.args.depth % 4) (digit_small c.args.b) })

pub returns : goal.returns
returns c = (pushed _ _ _ _ _ (omega arith) c.requires.1 c.weight-w.ensures c.digit_of.ensures, omega arith, omega arith)
