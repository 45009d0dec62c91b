-- `genuine::entry_fits` meets its contract.
-- Assumes nothing.
use Rattle.genuine.proofs.TestingEntries.{entry_apart, entry_over, entry_cut, entry_misnamed, entry_unordered, entry_by}
use Rattle.std.proofs.lemmas.Bool.{not_from_true, not_from_false}
use Rattle.genuine.proofs.entry_fits.Goals as goal

pub returns-then-r-at : goal.returns-then-r-at
returns-then-r-at c = entry_apart _ _ _ _ c.if-r-at.true

pub returns-then-b-r : goal.returns-then-b-r
returns-then-b-r c = entry_over _ _ _ _ c.if-r-at.false c.if-b-r.true

pub returns-then-r-c : goal.returns-then-r-c
returns-then-r-c c = entry_cut _ _ _ _ c.if-r-at.false c.if-b-r.false c.if-r-c.true

pub returns-then-not-is_fit_name : goal.returns-then-not-is_fit_name
returns-then-not-is_fit_name c = entry_misnamed _ _ _ _ c.if-r-at.false c.if-b-r.false c.if-r-c.false c.part_of-w.ensures c.is_fit_name.ensures (not_from_false _ c.if-not-is_fit_name.true)

pub returns-then-not-is_before : goal.returns-then-not-is_before
returns-then-not-is_before c = entry_unordered _ _ _ _ c.if-r-at.false c.if-b-r.false c.if-r-c.false c.part_of-w.ensures c.is_fit_name.ensures (not_from_true _ c.if-not-is_fit_name.false) c.part_of.ensures c.is_before.ensures (not_from_false _ c.if-not-is_before.true)

pub returns : goal.returns
returns c = entry_by _ _ _ _ c.if-r-at.false c.if-b-r.false c.if-r-c.false c.part_of-w.ensures c.is_fit_name.ensures (not_from_true _ c.if-not-is_fit_name.false) c.part_of.ensures c.is_before.ensures (not_from_true _ c.if-not-is_before.false) c.body_fits.ensures
