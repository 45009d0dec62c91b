-- `including::enter` meets its contract.
-- Assumes nothing.
use mathlib.Core.Path.{sym, ◌∙◌}
use native.Mathlib.Omega.{arith}
use Rattle.including.proofs.Entering.{enter_barred, enter_missing, enter_deep, enter_into}
use Rattle.including.proofs.enter.Goals as goal

pub returns-then-is_barred : goal.returns-then-is_barred
returns-then-is_barred c = let a = c.args in rw (← c.part_of-w.ensures) (enter_barred _ _ _ _ _ _ a.l a.form c.part_of-w.result.now (sym c.is_barred.ensures ∙ c.if-is_barred.true))

pub returns-then-table-i : goal.returns-then-table-i
returns-then-table-i c = let a = c.args in rw (← c.part_of-w.ensures) (enter_missing _ a.table.now _ _ _ a.depth a.l _ _ c.entry_of-i.result (sym c.is_barred.ensures ∙ c.if-is_barred.false) c.entry_of-i.ensures (omega (arith, c.if-table-i.true)))

pub returns-then-depth-ge16 : goal.returns-then-depth-ge16
returns-then-depth-ge16 c = let a = c.args in rw (← c.part_of-w.ensures) (enter_deep _ a.table.now _ _ _ a.depth a.l _ _ c.entry_of-i.result (sym c.is_barred.ensures ∙ c.if-is_barred.false) c.entry_of-i.ensures (omega (arith, c.if-table-i.false)) (omega (arith, c.if-depth-ge16.true)))

pub returns : goal.returns
returns c = let a = c.args in rw (← c.part_of-w.ensures) (enter_into _ a.table.now _ _ _ a.depth a.l _ _ c.entry_of-i.result (sym c.is_barred.ensures ∙ c.if-is_barred.false) c.entry_of-i.ensures (omega (arith, c.if-table-i.false)) c.requires (omega (arith, c.if-depth-ge16.false)))
