use mathlib.Core.Path.{◌∙◌}
use native.Mathlib.Omega.{arith}
use Rattle.genuine.proofs.TestingRows.{take_end, take_blank, take_many, take_odd, take_next}
use Rattle.std.proofs.lemmas.Bool.{not_from_true, not_from_false}
use Rattle.genuine.proofs.check_taken.Goals as goal

pub returns-then-is_blank : goal.returns-then-is_blank
returns-then-is_blank c = take_blank _ _ _ _ _ c.loop-i-test.true c.read-r.ensures c.is_blank.ensures c.if-is_blank.true c.ends_there.ensures ∙ c.loop-i.invariant.0

pub returns-then-i-ge256 : goal.returns-then-i-ge256
returns-then-i-ge256 c = take_many _ _ _ _ _ c.loop-i-test.true c.read-r.ensures c.is_blank.ensures c.if-is_blank.false c.if-i-ge256.true ∙ c.loop-i.invariant.0

pub returns-then-not-entry_fits : goal.returns-then-not-entry_fits
returns-then-not-entry_fits c = take_odd _ _ _ _ _ c.loop-i-test.true c.read-r.ensures c.is_blank.ensures c.if-is_blank.false c.if-i-ge256.false c.entry_fits.ensures (not_from_false _ c.if-not-entry_fits.true) ∙ c.loop-i.invariant.0

pub loop-i-preserved : goal.loop-i-preserved
loop-i-preserved c = (take_next _ _ _ _ _ c.loop-i-test.true c.read-r.ensures c.is_blank.ensures c.if-is_blank.false c.if-i-ge256.false c.entry_fits.ensures (not_from_true _ c.if-not-entry_fits.false) ∙ c.loop-i.invariant.0, c.entry_fits.auto.name ∙ c.loop-i.invariant.1, c.entry_fits.auto.stack ∙ c.loop-i.invariant.2)

pub returns : goal.returns
returns c = take_end _ _ _ _ _ (omega arith) c.ends_there-2.ensures ∙ c.loop-i.invariant.0
