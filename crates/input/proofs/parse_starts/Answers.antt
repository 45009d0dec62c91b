use mathlib.Core.Path.{◌∙◌}
use Rattle.input.proofs.Filling.{starts_broken, starts_next, starts_past, starts_done}
use Rattle.input.proofs.parse_starts.Goals as goal
use Rattle.input.proofs.parse_starts.Goals.{then-k-starts, else-k-starts}

pub returns-then-s-i : goal.returns-then-s-i
returns-then-s-i c = starts_broken c.loop-k.invariant c.loop-k-test.true (c.from-size.ensures ∙ c.peek.ensures) c.if-s-i.true

pub loop-k-preserved : goal.loop-k-preserved
loop-k-preserved c =
    let f = c.loop-k.invariant in
    let h = c.loop-k-test.true in
    let q = c.from-size.ensures ∙ c.peek.ensures in
    elim c.if-k-starts.branch [
      | then-k-starts w ↦ rw w.starts-is (starts_next f h q c.if-s-i.false w.if-k-starts.true w.to_u32.ensures w.to_u32-then-k-starts.ensures)
      | else-k-starts w ↦ rw w.starts-is (starts_past f h q c.if-s-i.false w.if-k-starts.false)
    ]

pub returns : goal.returns
returns c = starts_done c.loop-k-test.false c.loop-k.invariant
