-- `input::parse_rest` meets its contract.
-- Assumes nothing.
use Rattle.input.proofs.Filling.{unparsed, rest_short, rest_other, rest_unbodied, rest_cut, rest_unstarted, rest_longer, rest_whole}
use borrow.Author.Rules.{rules}
use Rattle.input.proofs.parse_rest.Goals as goal

pub returns-then-s-at : goal.returns-then-s-at
returns-then-s-at c vs _ = let a = c.args in rest_short a.s.now a.at a.n vs c.if-s-at.true

pub returns-then-two_at-n : goal.returns-then-two_at-n
returns-then-two_at-n c vs _ = let a = c.args in rest_other a.s.now a.at a.n vs c.if-s-at.false c.two_at.ensures.0 c.if-two_at-n.true

pub returns-then-s-j : goal.returns-then-s-j
returns-then-s-j c vs _ = let a = c.args in rest_cut a.s.now a.at a.n a.table.now c.parse_bodies.new.table c.if-s-at.false c.two_at.ensures.0 c.if-two_at-n.false c.parse_bodies.ensures c.in_ok-j.was c.if-s-j.true vs

pub returns-then-e-s : goal.returns-then-e-s
returns-then-e-s c vs _ = let a = c.args in rest_longer a.s.now a.at a.n a.table.now c.parse_bodies.new.table c.if-s-at.false c.two_at.ensures.0 c.if-two_at-n.false c.parse_bodies.ensures c.in_ok-j.was c.parse_starts.new.starts c.if-s-j.false c.two_at-m.ensures.0 c.parse_starts.ensures c.in_ok-e.was c.if-e-s.true vs

pub returns-in_err-j : goal.returns-in_err-j
returns-in_err-j c vs _ = let a = c.args in unparsed _ _ c.from_residual.ensures (rest_unbodied a.s.now a.at a.n a.table.now c.parse_bodies.new.table c.if-s-at.false c.two_at.ensures.0 c.if-two_at-n.false c.parse_bodies.ensures c.in_err-j.was vs)

pub returns-in_err-e : goal.returns-in_err-e
returns-in_err-e c vs _ = let a = c.args in unparsed _ _ c.from_residual-in_err-e.ensures (rest_unstarted a.s.now a.at a.n a.table.now c.parse_bodies.new.table c.if-s-at.false c.two_at.ensures.0 c.if-two_at-n.false c.parse_bodies.ensures c.in_ok-j.was c.parse_starts.new.starts c.if-s-j.false c.two_at-m.ensures.0 c.parse_starts.ensures c.in_err-e.was vs)

pub returns : goal.returns
returns c = let a = c.args in rest_whole a.s.now a.at a.n a.table.now c.parse_bodies.new.table c.if-s-at.false c.two_at.ensures.0 c.if-two_at-n.false c.parse_bodies.ensures c.in_ok-j.was c.parse_starts.new.starts c.if-s-j.false c.two_at-m.ensures.0 c.parse_starts.ensures c.in_ok-e.was c.if-e-s.false c.min.ensures c.min-2.ensures (search rules)
