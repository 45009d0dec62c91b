-- `definition::judge_definition` meets its contract. The definition, by its extent, its head and the shape that was read.
-- Assumes nothing.
use mathlib.Core.Path.{refl, ap, sym}
use native.Mathlib.Omega.{arith}
use Rattle.brackets.specs.Stacks.{full, over}
use Rattle.brackets.proofs.Settling.{settled_lent}
use Rattle.definition.specs.Lists.{ill, whole}
use Rattle.definition.specs.Definitions.{shape_by}
use Rattle.definition.specs.Answers.{judged_of}
use Rattle.definition.proofs.Defining.{told_shape, told_ill, told_few, defined_barred, defined_judged, defined_whole}
use Rattle.definition.proofs.judge_definition.Goals as goal

pub returns-then-f-ne0 : goal.returns-then-f-ne0
returns-then-f-ne0 c =
    let a = c.args in
    let k = told_shape (shape_by a.s.now c.head_at-h.result) c.in-Ok.ensures in
    full (defined_barred a.s.now a.at c.extent_at-w.ensures c.head_at-h.ensures (whole k.formals _) k.shape _ c.bars_of-f.ensures c.if-f-ne0.true)

pub returns-else-f-ne0 : goal.returns-else-f-ne0
returns-else-f-ne0 c =
    let a = c.args in
    let k = told_shape (shape_by a.s.now c.head_at-h.result) c.in-Ok.ensures in
    defined_whole a.s.now a.at c.extent_at-w.ensures c.head_at-h.ensures (whole k.formals _) k.shape _ c.bars_of-f.ensures c.if-f-ne0.false refl (λ u. settled_lent (omega arith) (c.judge_whole.ensures k.formals k.shape k.count u))

pub returns-then-f-ne0-2 : goal.returns-then-f-ne0-2
returns-then-f-ne0-2 c =
    let a = c.args in
    let e = c.in-Err-IllFormed in
    let z = told_ill (shape_by a.s.now c.head_at-h.result) (rw e.field-0-is at e.ensures) in
    full (defined_barred a.s.now a.at c.extent_at-w.ensures c.head_at-h.ensures ill z _ c.bars_of-f-in-Err-IllFormed.ensures c.if-f-ne0-2.true)

pub returns-else-f-ne0-2 : goal.returns-else-f-ne0-2
returns-else-f-ne0-2 c =
    let a = c.args in
    let e = c.in-Err-IllFormed in
    let z = told_ill (shape_by a.s.now c.head_at-h.result) (rw e.field-0-is at e.ensures) in
    full (ap judged_of (sym (defined_judged a.s.now a.at c.extent_at-w.ensures c.head_at-h.ensures ill z _ c.bars_of-f-in-Err-IllFormed.ensures c.if-f-ne0-2.false)))

pub returns-in-Err-NoRoom : goal.returns-in-Err-NoRoom
returns-in-Err-NoRoom c = let e = c.in-Err-NoRoom in over refl (told_few (shape_by c.args.s.now c.head_at-h.result) (rw e.field-0-is at e.ensures))
