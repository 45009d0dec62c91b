-- `brackets::step` meets its contract. It branches as its definition does.
-- Assumes nothing.
use mathlib.Core.Path.{refl}
use native.Mathlib.Omega.{arith}
use borrow.Author.Tests.{eq-eqb, ne_eqb}
use Rattle.brackets.specs.Steps.{step_of}
use Rattle.brackets.proofs.Stacking.{step_comma_ends, step_comma, step_ends, step_paren}
use Rattle.brackets.proofs.step.Goals as goal

pub returns-then-depth-eq0 : goal.returns-then-depth-eq0
returns-then-depth-eq0 c = (step_comma_ends _ _ _ c.if-b-eq44.true c.if-depth-eq0.true, refl)

pub returns-then-b-eq44 : goal.returns-then-b-eq44
returns-then-b-eq44 c = (step_comma _ _ _ c.if-b-eq44.true c.if-depth-eq0.false, omega arith, omega arith)

pub returns-then-depth-eq0-2 : goal.returns-then-depth-eq0-2
returns-then-depth-eq0-2 c = (step_ends _ _ _ c.if-b-eq41.true c.if-depth-eq0-2.true, refl)

pub returns-then-b-eq41 : goal.returns-then-b-eq41
returns-then-b-eq41 c = rw (step_paren c.args.stack.now c.args.depth c.args.b c.if-b-eq41.true c.if-depth-eq0-2.false) c.close.ensures

pub returns-then-b : goal.returns-then-b
unfolding step_of
returns-then-b c = simp (ne_eqb _ _ c.if-b-eq44.false, ne_eqb _ _ c.if-b-eq41.false, c.if-b.true) c.close-then-b.ensures

pub returns-then-b-eq40 : goal.returns-then-b-eq40
unfolding step_of
returns-then-b-eq40 c = simp (ne_eqb _ _ c.if-b-eq44.false, ne_eqb _ _ c.if-b-eq41.false, c.if-b.false, eq-eqb _ _ c.if-b-eq40.true) c.push.ensures

pub returns-then-b-eq91 : goal.returns-then-b-eq91
unfolding step_of
returns-then-b-eq91 c = simp (ne_eqb _ _ c.if-b-eq44.false, ne_eqb _ _ c.if-b-eq41.false, ne_eqb _ _ c.if-b-eq40.false, c.if-b.false, eq-eqb _ _ c.if-b-eq91.true) c.push-then-b-eq91.ensures

pub returns-then-b-eq123 : goal.returns-then-b-eq123
unfolding step_of
returns-then-b-eq123 c = simp (ne_eqb _ _ c.if-b-eq44.false, ne_eqb _ _ c.if-b-eq41.false, ne_eqb _ _ c.if-b-eq40.false, ne_eqb _ _ c.if-b-eq91.false, c.if-b.false, eq-eqb _ _ c.if-b-eq123.true) c.push-then-b-eq123.ensures

pub returns : goal.returns
unfolding step_of
returns c = (simp (ne_eqb _ _ c.if-b-eq44.false, ne_eqb _ _ c.if-b-eq41.false, ne_eqb _ _ c.if-b-eq40.false, ne_eqb _ _ c.if-b-eq91.false, ne_eqb _ _ c.if-b-eq123.false, c.if-b.false), omega arith, omega arith)
