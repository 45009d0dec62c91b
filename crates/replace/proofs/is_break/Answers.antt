-- `replace::is_break` meets its contract.
-- Assumes nothing.
use Rattle.replace.proofs.Tidying.{break_kind, break_first, break_out, break_next}
use Rattle.replace.proofs.is_break.Goals as goal

pub returns-then-p-ne-BYTE : goal.returns-then-p-ne-BYTE
returns-then-p-ne-BYTE c ps sp h = break_kind _ _ c.args.t _ c.if-p-ne-BYTE.true

pub returns-then-first_byte-ne92 : goal.returns-then-first_byte-ne92
returns-then-first_byte-ne92 c ps sp h = break_first _ _ c.args.t _ _ c.if-p-ne-BYTE.false c.first_byte.ensures c.if-first_byte-ne92.true

pub returns-then-to-t : goal.returns-then-to-t
returns-then-to-t c ps sp h = break_out _ _ _ _ _ c.args.t _ _ sp c.if-to-t.true

pub returns-in-Some : goal.returns-in-Some
returns-in-Some c ps sp h = break_next _ c.args.b.now _ _ _ c.args.t _ _ sp c.in-Some.u (c.in-Some.ensures c.args.b.now) c.if-to-t.false h c.if-p-ne-BYTE.false c.first_byte.ensures c.if-first_byte-ne92.false
