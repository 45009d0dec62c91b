use mathlib.Core.Path.{◌∙◌}
use Rattle.input.proofs.Filling.{names_broken, names_next, names_past, names_done}
use Rattle.input.proofs.parse_names.Goals as goal
use Rattle.input.proofs.parse_names.Goals.{then-k-table, else-k-table}

pub returns-then-s-i : goal.returns-then-s-i
returns-then-s-i c = names_broken c.loop-k.invariant c.loop-k-test.true (c.from-size.ensures ∙ c.peek.ensures) c.peek-form.ensures c.if-s-i.true

pub loop-k-preserved : goal.loop-k-preserved
loop-k-preserved c =
    let f = c.loop-k.invariant in
    let h = c.loop-k-test.true in
    let q = c.from-size.ensures ∙ c.peek.ensures in
    elim c.if-k-table.branch [
      | then-k-table w ↦ rw w.table-is (names_next f h q c.peek-form.ensures c.if-s-i.false w.if-k-table.true w.from.ensures w.to_u32.ensures w.to_u32-then-k-table.ensures)
      | else-k-table w ↦ rw w.table-is (names_past f h q c.peek-form.ensures c.if-s-i.false w.if-k-table.false)
    ]

pub returns : goal.returns
returns c = names_done c.loop-k-test.false c.loop-k.invariant
