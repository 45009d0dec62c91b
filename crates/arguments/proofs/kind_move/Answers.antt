-- `arguments::kind_move` meets its contract.
-- Assumes nothing.
use native.Mathlib.Omega.{arith}
use Rattle.arguments.proofs.Moves.{kind_byte, kind_quote, kind_barred, kind_grave, kind_other}
use Rattle.arguments.proofs.kind_move.Goals as goal

pub returns-then-kind-eq-BYTE : goal.returns-then-kind-eq-BYTE
returns-then-kind-eq-BYTE c = kind_byte c.args.kind c.args.b c.args.name.now c.args.stack.now c.byte_move.new.stack c.args.depth c.byte_move.result c.if-kind-eq-BYTE.true c.byte_move.ensures

pub returns-then-kind-eq-QUOTE : goal.returns-then-kind-eq-QUOTE
returns-then-kind-eq-QUOTE c = kind_quote _ _ _ _ c.if-kind-eq-QUOTE.true

pub returns-then-directive_of-gt2 : goal.returns-then-directive_of-gt2
returns-then-directive_of-gt2 c = kind_barred _ _ _ _ _ c.if-kind-eq-GRAVE.true c.directive_of.ensures c.if-directive_of-gt2.true

pub returns-then-kind-eq-GRAVE : goal.returns-then-kind-eq-GRAVE
returns-then-kind-eq-GRAVE c = (kind_grave _ _ _ _ _ c.if-kind-eq-GRAVE.true c.directive_of.ensures c.if-directive_of-gt2.false, omega arith)

pub returns : goal.returns
returns c = (kind_other _ _ _ _ c.if-kind-eq-BYTE.false c.if-kind-eq-QUOTE.false c.if-kind-eq-GRAVE.false, omega arith)
