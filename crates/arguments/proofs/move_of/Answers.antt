-- `arguments::move_of` meets its contract: barred, or by its kind, its first byte and its name.
-- Assumes nothing.
use Rattle.arguments.proofs.Moves.{move_shut, move_clear}
use Rattle.arguments.proofs.move_of.Goals as goal

pub returns-then-t-ne0 : goal.returns-then-t-ne0
returns-then-t-ne0 c = move_shut _ _ c.args.t _ c.if-t-ne0.true

pub returns : goal.returns
returns c = move_clear c.args.s.now c.args.b.now c.args.t c.args.stack.now c.kind_move.new.stack c.args.depth c.kind_move.result _ _ c.if-t-ne0.false c.first_byte.ensures c.name_of.ensures c.kind_move.ensures
