use borrow.Author.Tests.{eqb-true, eqb-false, ne_eqb}
use mathlib.Core.Path.{sym, ◌∙◌}
use Rattle.lex.proofs.Tests.{true_false}
use Rattle.arguments.proofs.Opening.{opening_out, opening_shut, opening_blank, opening_other, opening_here, opening_closed}
use Rattle.arguments.proofs.open_at.Goals as goal
use Rattle.arguments.proofs.open_at.Goals.{then-p-eq-BYTE, else-p-eq-BYTE}

pub returns-then-t-ne0 : goal.returns-then-t-ne0
returns-then-t-ne0 c = c.loop-t.invariant ∙ opening_shut c.args.s.now c.args.b.now c.in-Some.t (c.in-Some.ensures c.args.b.now) c.if-t-ne0.true

pub returns-then-opens : goal.returns-then-opens
returns-then-opens c =
    elim c.if-p-eq-BYTE.branch [
      | then-p-eq-BYTE w ↦ let o = opening_here c.args.s.now c.args.b.now c.in-Some.t (c.in-Some.ensures c.args.b.now) c.if-t-ne0.false w.if-p-eq-BYTE.true w.first_byte.ensures (eqb-true w.first_byte.result 40 (sym w.opens-is ∙ c.if-opens.true)) in (c.loop-t.invariant ∙ o.0, o.1)
      | else-p-eq-BYTE w ↦ true_false _ c.if-opens.true (w.opens-is ∙ ne_eqb _ _ w.if-p-eq-BYTE.false)
    ]

pub returns-else-opens : goal.returns-else-opens
returns-else-opens c =
    elim c.if-p-eq-BYTE.branch [
      | then-p-eq-BYTE w ↦ c.loop-t.invariant ∙ opening_closed c.args.s.now c.args.b.now c.in-Some.t (c.in-Some.ensures c.args.b.now) c.if-t-ne0.false w.if-p-eq-BYTE.true w.first_byte.ensures (eqb-false w.first_byte.result 40 (sym w.opens-is ∙ c.if-opens.false))
      | else-p-eq-BYTE w ↦ c.loop-t.invariant ∙ opening_other c.args.s.now c.args.b.now c.in-Some.t (c.in-Some.ensures c.args.b.now) c.if-t-ne0.false (sym c.is_blank.ensures ∙ c.if-not-is_blank.true) w.if-p-eq-BYTE.false
    ]

pub loop-t-preserved : goal.loop-t-preserved
loop-t-preserved c = c.loop-t.invariant ∙ opening_blank c.args.s.now c.args.b.now c.in-Some.t (c.in-Some.ensures c.args.b.now) c.if-t-ne0.false (sym c.is_blank.ensures ∙ c.if-not-is_blank.false)

pub returns : goal.returns
returns c = c.loop-t.invariant ∙ opening_out (c.in_default.ensures c.args.b.now)
