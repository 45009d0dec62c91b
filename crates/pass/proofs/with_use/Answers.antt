-- `pass::with_use` meets its contract.
-- Assumes nothing.
use native.Mathlib.Omega.{arith}
use Rattle.sets.specs.Sets.{members}
use Rattle.store.proofs.Places.{found_below}
use Rattle.pass.proofs.Using.{use_other, use_missing, use_at}
use Rattle.pass.proofs.with_use.Goals as goal

pub insert-requires : goal.insert-requires
insert-requires c =
    let h = c.requires.stored.holds in
    omega (arith, found_below c.name_of.result.now h (c.find-f.ensures _ h) _ c.in-Ok.is, c.requires.few_macros)

pub returns-in-Ok : goal.returns-in-Ok
returns-in-Ok c ms j h = use_at ms c.args.b.now c.args.v c.pend_of-p.ensures c.is_usage.ensures (members c.args.uses) j c.if-is_usage.true c.name_of.ensures (c.find-f.ensures ms h) _ c.in-Ok.is c.insert.ensures

pub returns-in-Err : goal.returns-in-Err
returns-in-Err c ms j h = use_missing ms c.args.b.now c.args.v c.pend_of-p.ensures c.is_usage.ensures (members c.args.uses) j c.if-is_usage.true c.name_of.ensures (c.find-f.ensures ms h) _ c.in-Err.is

pub returns : goal.returns
returns c ms j h = use_other ms c.args.b.now c.args.v c.pend_of-p.ensures c.is_usage.ensures (members c.args.uses) j c.if-is_usage.false
