-- `pass::usage_fault` meets its contract.
-- Assumes nothing.
use mathlib.Core.Bool.{false}
use Rattle.pending.specs.Sources.{items_from, last_of}
use Rattle.pass.proofs.Faults.{usage_missing, usage_good, usage_bad}
use Rattle.pass.proofs.usage_fault.Goals as goal

pub accept-r-requires : goal.accept-r-requires
accept-r-requires c = (c.requires.0.bytes_small, c.read.ensures.small, c.requires.1)

pub returns-in-Ok-r : goal.returns-in-Ok-r
returns-in-Ok-r c ms h =
    let a = c.args in
    let f = items_from a.b.now a.b.now a.list.now a.n false in
    usage_good a.w.now (f a.at) h (c.find-f.ensures ms h) _ c.in-Ok.is c.requires.0.bytes_small c.read.ensures f (last_of a.b.now a.n false)
    c.accept-r.new.ranges c.accept-r.result c.accept-r.ensures _ c.in-Ok-r.is

pub returns-in-Err-r : goal.returns-in-Err-r
returns-in-Err-r c ms h =
    let a = c.args in
    let f = items_from a.b.now a.b.now a.list.now a.n false in
    usage_bad a.w.now (f a.at) h (c.find-f.ensures ms h) _ c.in-Ok.is c.requires.0.bytes_small c.read.ensures f (last_of a.b.now a.n false)
    c.accept-r.new.ranges c.accept-r.result c.accept-r.ensures _ c.in-Err-r.is

pub returns-in-Err : goal.returns-in-Err
returns-in-Err c ms h =
    let a = c.args in
    let f = items_from a.b.now a.b.now a.list.now a.n false in
    usage_missing a.w.now (f a.at) h (c.find-f.ensures ms h) _ c.in-Err.is
