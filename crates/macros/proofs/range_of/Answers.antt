-- `macros::range_of` meets its contract: both numbers have 32 bits.
-- Assumes nothing.
use native.Mathlib.Omega.{arith}
use lib.ListN.{get_or}
use mir.Syntax.{w32}
use mir.Val.{Fits}
use Rattle.macros.proofs.Ranges.{range_small}
use borrow.Author.Rules.{rules}
use Rattle.macros.proofs.range_of.Goals as goal

pub overflow_add-start : goal.overflow_add-start
overflow_add-start c =
    let a : Fits w32 (get_or c.args.v 0 0) = search rules in
    let b : Fits w32 (get_or c.args.v 1 0) = search rules in
    omega arith

pub returns : goal.returns
returns c =
    let v = c.args.v in
    let b : Fits w32 (get_or v 1 0) = search rules in
    (c.part_of.ensures, range_small c.args.s.now (get_or v 0 0) (get_or v 1 0) c.part_of.ensures (omega arith))
