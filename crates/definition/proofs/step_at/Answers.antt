-- `definition::step_at` meets its contract. It branches as its definition does.
-- Assumes nothing.
use mathlib.Core.Path.{refl}
use native.Mathlib.Omega.{arith}
use borrow.Author.Tests.{eq-eqb, ne_eqb}
use Rattle.definition.specs.Lists.{step_at}
use Rattle.definition.proofs.step_at.Goals as goal

pub returns-then-t-eq-QUOTE : goal.returns-then-t-eq-QUOTE
unfolding step_at
returns-then-t-eq-QUOTE c = (simp (eq-eqb _ _ c.if-t-eq-QUOTE.true), refl)

pub returns-then-t-eq-BYTE : goal.returns-then-t-eq-BYTE
unfolding step_at
returns-then-t-eq-BYTE c = simp (ne_eqb _ _ c.if-t-eq-QUOTE.false, eq-eqb _ _ c.if-t-eq-BYTE.true, ← c.peek.ensures) c.step.ensures

pub returns : goal.returns
unfolding step_at
returns c = (simp (ne_eqb _ _ c.if-t-eq-QUOTE.false, ne_eqb _ _ c.if-t-eq-BYTE.false), omega arith, omega arith)
