-- `arguments::byte_move` meets its contract: the move is the step that the byte takes among brackets.
-- Assumes nothing.
use Rattle.arguments.proofs.Moves.{byte_keep, byte_part, byte_close, byte_fail}
use Rattle.arguments.proofs.byte_move.Goals as goal

pub returns-then-b-eq44 : goal.returns-then-b-eq44
returns-then-b-eq44 c = byte_part _ _ _ _ c.step-r.result c.step-r.ensures c.in-Done.is c.if-b-eq44.true

pub returns-in-On : goal.returns-in-On
returns-in-On c = byte_keep _ _ _ _ c.step-r.result c.step-r.ensures _ c.in-On.is

pub returns-else-b-eq44 : goal.returns-else-b-eq44
returns-else-b-eq44 c = byte_close _ _ _ _ c.step-r.result c.step-r.ensures c.in-Done.is c.if-b-eq44.false

pub returns-in-Torn : goal.returns-in-Torn
returns-in-Torn c = byte_fail _ _ _ _ c.step-r.result c.step-r.ensures c.in-Torn.is
