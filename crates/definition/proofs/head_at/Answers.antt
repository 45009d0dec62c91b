-- `definition::head_at` meets its contract. Its name and the token behind that are those of the definition.
-- Assumes nothing.
use mathlib.Core.Path.{sym}
use native.Mathlib.Omega.{arith}
use Rattle.definition.proofs.Heading.{head_none, head_inside, open_inside, head_listed, head_bare}
use Rattle.std.proofs.lemmas.Bool.{not_from_true, not_from_false}
use Rattle.definition.proofs.head_at.Goals as goal

pub returns-then-not-t : goal.returns-then-not-t
returns-then-not-t c = sym (head_none _ _ _ _ _ c.gap_end.ensures c.in_definition.ensures c.token_at-t.ensures (not_from_false _ c.if-not-t.true))

pub open_at-p-requires : goal.open_at-p-requires
open_at-p-requires c = head_inside _ _ _ _ _ c.gap_end.ensures c.in_definition.ensures c.token_at-t.ensures (not_from_true _ c.if-not-t.false)

pub overflow_add-p : goal.overflow_add-p
overflow_add-p c = let h = open_inside _ _ _ _ _ c.gap_end.ensures c.in_definition.ensures c.token_at-t.ensures (not_from_true _ c.if-not-t.false) _ _ _ c.open_at-p.ensures c.in_definition-2.ensures c.token_at-u.ensures _ c.is_byte.ensures c.if-is_byte.true in omega arith

pub returns-then-is_byte : goal.returns-then-is_byte
returns-then-is_byte c = head_listed _ _ _ _ _ c.gap_end.ensures c.in_definition.ensures c.token_at-t.ensures (not_from_true _ c.if-not-t.false) _ _ _ c.open_at-p.ensures c.in_definition-2.ensures c.token_at-u.ensures _ c.is_byte.ensures _ c.if-is_byte.true c.make_head.ensures

pub returns : goal.returns
returns c = head_bare _ _ _ _ _ c.gap_end.ensures c.in_definition.ensures c.token_at-t.ensures (not_from_true _ c.if-not-t.false) _ _ _ c.open_at-p.ensures c.in_definition-2.ensures c.token_at-u.ensures _ c.is_byte.ensures _ c.if-is_byte.false c.make_head-2.ensures
