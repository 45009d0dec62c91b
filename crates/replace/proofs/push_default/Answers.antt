use mathlib.Core.List.{[]}
use Rattle.replace.proofs.Values.{copy_all, copy_less, ref_small, copy_next, copy_full}
use Rattle.replace.proofs.push_default.Goals as goal

pub stored_ref-requires : goal.stored_ref-requires
stored_ref-requires c = ref_small c.loop-i.invariant c.loop-i-test.true c.in_file.ensures c.token_at-t.ensures c.requires.0

pub loop-i-smaller : goal.loop-i-smaller
loop-i-smaller c = copy_less c.loop-i.invariant c.loop-i-test.true c.in_file.ensures c.token_at-t.ensures

pub loop-i-preserved : goal.loop-i-preserved
loop-i-preserved c = copy_next c.loop-i.invariant c.loop-i-test.true c.in_file.ensures c.token_at-t.ensures c.stored_ref.ensures c.in_ok-k.ensures

pub returns-in_err-k : goal.returns-in_err-k
returns-in_err-k c = rw c.from_residual.ensures (copy_full c.loop-i.invariant c.loop-i-test.true c.in_file.ensures c.token_at-t.ensures c.push.new.out (c.in_err-k.ensures [] []))

pub returns : goal.returns
returns c = copy_all c.loop-i.invariant c.loop-i-test.false
