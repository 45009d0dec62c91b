-- `macros::plain_name` meets its contract.
-- Assumes nothing.
use mathlib.Core.Path.{◌∙◌}
use Rattle.macros.proofs.Showing.{plain_none, plain_cut, plain_same}
use Rattle.macros.proofs.plain_name.Goals as goal

pub returns-then-w-eq0 : goal.returns-then-w-eq0
returns-then-w-eq0 c = plain_none c.args.w.now c.if-w-eq0.true

pub returns-then-w-eq92 : goal.returns-then-w-eq92
returns-then-w-eq92 c = c.part_of.ensures ∙ plain_cut c.args.w.now c.if-w-eq0.false c.if-w-eq92.true

pub returns : goal.returns
returns c = plain_same c.args.w.now c.if-w-eq92.false
