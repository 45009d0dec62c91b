use mathlib.Core.Path.{◌∙◌}
use Prim.Native.Nat.{◌-◌}
use native.Mathlib.Nat.{le_trans}
use native.Mathlib.Omega.{arith}
use Rattle.genuine.proofs.TestingFormals.{fits_within, formals_end, formals_no, formals_next}
use Rattle.std.proofs.lemmas.Bool.{not_from_true, not_from_false}
use Rattle.genuine.proofs.formals_fit.Goals as goal

pub returns-then-not-formal_fits : goal.returns-then-not-formal_fits
returns-then-not-formal_fits c = formals_no _ _ _ _ c.loop-more-test.true c.formal_fits.ensures (not_from_false _ c.if-not-formal_fits.true) ∙ c.loop-more.invariant.0

pub loop-more-preserved : goal.loop-more-preserved
loop-more-preserved c = (formals_next _ _ _ _ c.loop-more-test.true c.formal_fits.ensures (not_from_true _ c.if-not-formal_fits.false) c.formal_end-i.ensures ∙ c.loop-more.invariant.0, le_trans (fits_within (c.loop-more.more - 1) _ _ _ c.formal_fits.ensures (not_from_true _ c.if-not-formal_fits.false) c.formal_end-i.ensures) c.requires.2, omega (arith, c.loop-more.invariant.2), c.formal_fits.auto.name ∙ c.loop-more.invariant.3, c.formal_fits.auto.stack ∙ c.loop-more.invariant.4)

pub returns : goal.returns
returns c = formals_end _ _ _ _ c.loop-more-test.false ∙ c.loop-more.invariant.0
