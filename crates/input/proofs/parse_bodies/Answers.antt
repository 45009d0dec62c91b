use Rattle.input.proofs.Filling.{bodies_broken, bodies_next, bodies_past, bodies_done}
use Rattle.input.proofs.parse_bodies.Goals as goal
use Rattle.input.proofs.parse_bodies.Goals.{then-k-table, else-k-table}

pub returns-then-s-i : goal.returns-then-s-i
returns-then-s-i c = bodies_broken c.loop-k.invariant c.loop-k-test.true c.two_at-size.ensures.0 c.if-s-i.true

pub loop-k-preserved : goal.loop-k-preserved
loop-k-preserved c =
    let f = c.loop-k.invariant in
    let h = c.loop-k-test.true in
    let q = c.two_at-size.ensures.0 in
    elim c.if-k-table.branch [
      | then-k-table w ↦ rw w.table-is (bodies_next f h q c.if-s-i.false w.if-k-table.true w.to_u32.ensures w.to_u32-then-k-table.ensures)
      | else-k-table w ↦ rw w.table-is (bodies_past f h q c.if-s-i.false w.if-k-table.false)
    ]

pub returns : goal.returns
returns c = bodies_done c.loop-k-test.false c.loop-k.invariant
