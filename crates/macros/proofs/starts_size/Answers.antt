use native.Mathlib.Omega.{arith}
use Rattle.macros.proofs.Showing.{plain_shorter}
use Rattle.macros.proofs.Ranges.{size_out, size_more}
use Rattle.macros.proofs.starts_size.Goals as goal

pub overflow_add-n : goal.overflow_add-n
overflow_add-n c = omega (arith, plain_shorter c.range_of.result.now c.plain_name-w.ensures, c.range_of.ensures.1)

pub overflow_add-n-in-loop-v : goal.overflow_add-n-in-loop-v
overflow_add-n-in-loop-v c = omega (arith, plain_shorter c.range_of.result.now c.plain_name-w.ensures, c.range_of.ensures.1, c.requires, c.loop-v.invariant.1, c.loop-v-test.true)

pub loop-v-preserved : goal.loop-v-preserved
loop-v-preserved c = (omega (arith, size_more c.args.s.now c.args.ranges.now c.loop-v.v-index c.loop-v-test.true c.range_of.ensures.0 c.plain_name-w.ensures, c.loop-v.invariant.0), omega (arith, plain_shorter c.range_of.result.now c.plain_name-w.ensures, c.range_of.ensures.1, c.loop-v.invariant.1))

pub returns : goal.returns
returns c = omega (arith, size_out c.args.s.now c.args.ranges.now c.loop-v.v-index c.loop-v-test.false, c.loop-v.invariant.0)
