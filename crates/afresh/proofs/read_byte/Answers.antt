-- `afresh::read_byte` meets its contract. It branches as its definition does.
-- Assumes nothing.
use Rattle.afresh.specs.States.{next}
use Rattle.afresh.proofs.Feeding.{fed_at}
use Rattle.std.proofs.lemmas.Bool.{not_from_true, not_from_false}
use Rattle.afresh.proofs.read_byte.Goals as goal

pub returns-then-not-is_legal : goal.returns-then-not-is_legal
unfolding next
returns-then-not-is_legal c = simp (← c.is_legal.ensures, (not_from_false _ c.if-not-is_legal.true)) (fed_at c.requires c.at_state.ensures)

pub returns-then-is_string : goal.returns-then-is_string
unfolding next
returns-then-is_string c = simp (← c.is_legal.ensures, (not_from_true _ c.if-not-is_legal.false), ← c.is_string.ensures c.args.name.now c.args.stack.now, c.if-is_string.true) (c.read_string.ensures c.args.name.now c.args.stack.now c.requires)

pub returns-then-r-b : goal.returns-then-r-b
unfolding next
returns-then-r-b c = simp (← c.is_legal.ensures, (not_from_true _ c.if-not-is_legal.false), ← c.is_string.ensures c.args.name.now c.args.stack.now, c.if-is_string.false, c.if-r-b.true) (fed_at c.requires c.at_state-then-r-b.ensures)

pub returns : goal.returns
unfolding next
returns c = simp (← c.is_legal.ensures, (not_from_true _ c.if-not-is_legal.false), ← c.is_string.ensures c.args.name.now c.args.stack.now, c.if-is_string.false, c.if-r-b.false) c.read_outside.ensures
