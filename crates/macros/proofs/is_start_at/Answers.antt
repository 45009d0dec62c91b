-- `macros::is_start_at` meets its contract.
-- Assumes nothing.
use mathlib.Core.List.{[]}
use Prim.Native.Nat.{◌+◌}
use lib.ListN.{get_or, drop}
use Rattle.macros.proofs.Ranges.{past_store, no_name, new_name}
use Rattle.std.proofs.lemmas.Bool.{not_from_true, not_from_false}
use Rattle.macros.proofs.is_start_at.Goals as goal

pub returns-then-s-range_end : goal.returns-then-s-range_end
returns-then-s-range_end c = let a = c.args in past_store a.s.now (get_or a.ranges.now a.i []) (drop (a.i + 1) a.ranges.now) c.range_end.ensures c.if-s-range_end.true

pub returns-then-not-is_start_name : goal.returns-then-not-is_start_name
returns-then-not-is_start_name c = let a = c.args in no_name a.s.now (get_or a.ranges.now a.i []) (drop (a.i + 1) a.ranges.now) c.range_end.ensures c.if-s-range_end.false c.range_of-w.ensures.0 c.is_start_name.ensures (not_from_false _ c.if-not-is_start_name.true)

pub returns : goal.returns
returns c = let a = c.args in new_name a.s.now (get_or a.ranges.now a.i []) (drop (a.i + 1) a.ranges.now) c.range_end.ensures c.if-s-range_end.false c.range_of-w.ensures.0 c.is_start_name.ensures (not_from_true _ c.if-not-is_start_name.false) c.plain_name.ensures c.named_among.ensures
