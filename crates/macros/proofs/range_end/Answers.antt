-- `macros::range_end` meets its contract: both numbers have 32 bits.
-- Assumes nothing.
use native.Mathlib.Omega.{arith}
use lib.ListN.{get_or}
use mir.Syntax.{w32}
use mir.Val.{Fits}
use borrow.Author.Rules.{rules}
use Rattle.macros.proofs.range_end.Goals as goal

pub overflow_add-result : goal.overflow_add-result
overflow_add-result c =
    let a : Fits w32 (get_or c.args.v 0 0) = search rules in
    let b : Fits w32 (get_or c.args.v 1 0) = search rules in
    omega arith
