-- `genuine::body_fits` meets its contract.
-- Assumes nothing.
use native.Mathlib.Omega.{arith}
use Rattle.genuine.proofs.TestingEntries.{text_short, body_over, body_odd, body_by}
use Rattle.std.proofs.lemmas.Bool.{not_from_true, not_from_false}
use Rattle.genuine.proofs.body_fits.Goals as goal

pub returns-then-count-gt16 : goal.returns-then-count-gt16
returns-then-count-gt16 c = search body_over

pub returns-then-not-formals_fit : goal.returns-then-not-formals_fit
returns-then-not-formals_fit c = body_odd _ _ c.peek-count.ensures c.if-count-gt16.false c.formals_fit.ensures (not_from_false _ c.if-not-formals_fit.true)

pub is_fit_stored-requires : goal.is_fit_stored-requires
is_fit_stored-requires c = (text_short _ _ c.requires.1 c.requires.2 c.part_of.ensures, omega (arith, c.requires.4), omega (arith, c.requires.5))

pub returns : goal.returns
returns c = body_by _ _ c.peek-count.ensures c.if-count-gt16.false c.formals_fit.ensures (not_from_true _ c.if-not-formals_fit.false) c.part_of.ensures c.is_fit_stored.ensures
