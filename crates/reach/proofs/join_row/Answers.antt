-- `reach::join_row` meets its contract: the row becomes the union where k is in it.
-- Assumes nothing.
use mathlib.Core.Path.{◌≡◌, ap, ap₂, sym, ◌∙◌}
use mathlib.Core.Bool.{◌||◌}
use Prim.Native.Nat.{ℕ}
use native.Mathlib.Omega.{arith}
use Rattle.sets.specs.Sets.{elem, members}
use Rattle.sets.specs.declared.MacroSet.{MacroSet}
use Rattle.reach.proofs.Joining.{row_at, row_read, join_taken, join_left}
use Rattle.reach.proofs.join_row.Goals as goal

pub returns-then-member : goal.returns-then-member
returns-then-member c = let a = c.args in
    let k : ℕ = a.k in
    let e : c.set_of-s.result ≡ row_at a.rows.now a.i = c.set_of-s.ensures ∙ row_read a.rows.now a.i in
    let f : c.set_of.result ≡ row_at a.rows.now k = c.set_of.ensures ∙ row_read a.rows.now k in
    join_taken a.rows.now a.i k c.union.result c.row_of.result (omega arith)
    (ap (λ (s : MacroSet). elem k (members s)) (sym e) ∙ sym c.member.ensures ∙ c.if-member.true)
    (λ j. c.union.ensures j ∙ ap₂ (λ (s t : MacroSet). elem j (members s) || elem j (members t)) e f)
    c.row_of.ensures

pub returns-else-member : goal.returns-else-member
returns-else-member c = let a = c.args in
    let k : ℕ = a.k in
    let e : c.set_of-s.result ≡ row_at a.rows.now a.i = c.set_of-s.ensures ∙ row_read a.rows.now a.i in
    join_left a.rows.now a.i k (ap (λ (s : MacroSet). elem k (members s)) (sym e) ∙ sym c.member.ensures ∙ c.if-member.false)
