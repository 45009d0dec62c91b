-- `afresh::read_line` meets its contract. The name is handed on without its last byte.
-- Assumes nothing.
use mathlib.Core.Path.{refl}
use native.Mathlib.Omega.{arith}
use Rattle.afresh.specs.States.{in_line}
use Rattle.afresh.proofs.Handing.{handed_sound, fed_shorn}
use Rattle.afresh.proofs.read_line.Goals as goal

pub returns-then-is_space : goal.returns-then-is_space
unfolding in_line
returns-then-is_space c = (rw (← c.is_space.ensures, c.if-is_space.true), c.requires, omega arith)

pub read_closed-requires : goal.read_closed-requires
read_closed-requires c = handed_sound c.requires c.at_line.ensures (omega arith)

pub returns-then-r-eq0 : goal.returns-then-r-eq0
unfolding in_line
returns-then-r-eq0 c = rw (← c.is_space.ensures, c.if-is_space.false) (fed_shorn c.read_closed.result c.args.r c.args.b c.args.name.now c.args.stack.now c.read_closed.new.name c.read_closed.new.stack (omega arith) (omega arith) c.at_line.ensures c.read_closed.ensures)

pub read_closed-requires-2 : goal.read_closed-requires-2
read_closed-requires-2 c = handed_sound c.requires c.at_line-2.ensures (omega arith)

pub returns : goal.returns
unfolding in_line
returns c = rw (← c.is_space.ensures, c.if-is_space.false) (fed_shorn c.read_closed-2.result c.args.r c.args.b c.args.name.now c.args.stack.now c.read_closed-2.new.name c.read_closed-2.new.stack (omega arith) refl c.at_line-2.ensures c.read_closed-2.ensures)
