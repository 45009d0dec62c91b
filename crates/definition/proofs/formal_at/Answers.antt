-- `definition::formal_at` meets its contract. Its name and the token behind that are those of the definition.
-- Assumes nothing.
use mathlib.Core.Path.{sym}
use Rattle.brackets.specs.Stacks.{full}
use Rattle.brackets.proofs.Settling.{settled_as}
use Rattle.definition.proofs.Defaults.{formal_unnamed, formal_given, formal_plain, formal_other}
use Rattle.definition.proofs.formal_at.Goals as goal

pub returns-then-t-ne-NAME : goal.returns-then-t-ne-NAME
returns-then-t-ne-NAME c = full (sym (formal_unnamed _ _ _ _ _ c.gap_end.ensures c.in_definition.ensures c.token_at-t.ensures c.if-t-ne-NAME.true))

pub returns-then-is_byte : goal.returns-then-is_byte
returns-then-is_byte c = settled_as (sym (formal_given _ _ _ _ _ c.gap_end.ensures c.in_definition.ensures c.token_at-t.ensures c.if-t-ne-NAME.false _ _ _ c.gap_end-2.ensures c.in_definition-2.ensures c.token_at-u.ensures _ c.is_byte.ensures c.if-is_byte.true)) c.given_formal.ensures

pub returns-then-is_byte-last : goal.returns-then-is_byte-last
returns-then-is_byte-last c = full (sym (formal_plain _ _ _ _ _ c.gap_end.ensures c.in_definition.ensures c.token_at-t.ensures c.if-t-ne-NAME.false _ _ _ c.gap_end-2.ensures c.in_definition-2.ensures c.token_at-u.ensures _ c.is_byte.ensures c.if-is_byte.false _ _ c.is_byte-last.ensures c.is_byte-2.ensures c.if-is_byte-last.true))

pub returns : goal.returns
returns c = full (sym (formal_other _ _ _ _ _ c.gap_end.ensures c.in_definition.ensures c.token_at-t.ensures c.if-t-ne-NAME.false _ _ _ c.gap_end-2.ensures c.in_definition-2.ensures c.token_at-u.ensures _ c.is_byte.ensures c.if-is_byte.false _ _ c.is_byte-last.ensures c.is_byte-2.ensures c.if-is_byte-last.false))
