use mathlib.Core.Logic.{inl}
use mathlib.Core.Path.{◌∙◌}
use native.Mathlib.Omega.{arith}
use lib.ListN.{length}
use Rattle.definition.proofs.Scanning.{scan_short, scan_less, scan_out}
use Rattle.form.proofs.Working.{full_fewer}
use Rattle.form.proofs.Walking.{walk_first, walk_fits, walk_next, walk_last, walk_full}
use Rattle.form.proofs.push_formals.Goals as goal

pub loop-i-init : goal.loop-i-init
loop-i-init c = walk_first c.requires

pub returns-in_err-f : goal.returns-in_err-f
returns-in_err-f c fs e p = let a = c.args in rw c.from_residual.ensures (inl (full_fewer a.work.now (length a.s.now) (omega (arith, c.loop-i-test.true)) (omega (arith, c.well_formed.0.1)) (scan_short c.loop-i.invariant.scan c.formal_at.ensures c.in_err-f.ensures.value tt p)))

pub push_formal-requires : goal.push_formal-requires
push_formal-requires c = walk_fits c.loop-i.invariant

pub returns-in_err-k : goal.returns-in_err-k
returns-in_err-k c fs e p = rw c.from_residual-in_err-k.ensures (walk_full c.loop-i.invariant c.formal_at.ensures c.in_ok-f.ensures.value c.push_formal.new.out c.push_formal.auto.out p c.formal_at.auto.stack c.in_err-k.ensures)

pub returns-then-f : goal.returns-then-f
returns-then-f c fs e p = walk_last c.loop-i.invariant c.formal_at.ensures c.in_ok-f.ensures.value c.push_formal.new.out c.push_formal.auto.out p c.in_ok-k.ensures c.if-f.true

pub loop-i-smaller : goal.loop-i-smaller
loop-i-smaller c = scan_less c.loop-i.invariant.scan c.formal_at.ensures c.in_ok-f.ensures.value c.loop-i-test.true

pub loop-i-preserved : goal.loop-i-preserved
loop-i-preserved c = walk_next c.loop-i.invariant c.formal_at.ensures c.in_ok-f.ensures.value c.push_formal.new.out c.push_formal.auto.out (c.push_formal.auto.work ∙ c.formal_at.auto.stack) c.in_ok-k.ensures c.if-f.false

pub returns : goal.returns
returns c fs e p = scan_out c.loop-i.invariant.scan c.loop-i-test.false tt p
