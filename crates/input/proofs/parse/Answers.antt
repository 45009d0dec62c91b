-- `input::parse` meets its contract.
-- Assumes nothing.
use Rattle.input.proofs.Filling.{unparsed, parse_short, parse_unnamed, parse_whole}
use Rattle.input.proofs.parse.Goals as goal

pub returns-then-s-lt2 : goal.returns-then-s-lt2
returns-then-s-lt2 c = parse_short c.args.s.now c.if-s-lt2.true

pub returns-in_err-i : goal.returns-in_err-i
returns-in_err-i c = let a = c.args in unparsed _ _ c.from_residual.ensures (parse_unnamed a.s.now c.parse_names.new.table c.if-s-lt2.false c.two_at-n.ensures.0 c.parse_names.ensures c.in_err-i.was)

pub returns : goal.returns
returns c = let a = c.args in parse_whole a.s.now c.parse_names.new.table c.if-s-lt2.false c.two_at-n.ensures.0 c.parse_names.ensures c.in_ok-i.was c.parse_rest.result c.parse_rest.new.table c.parse_rest.new.starts c.parse_rest.ensures
