-- `expand::usages::replace_top` meets its contract.
-- Assumes nothing.
use Prim.Native.Nat.{◌-◌}
use mathlib.Core.Bool.{false}
use mathlib.Core.Path.{sym, ap, ◌∙◌}
use native.Mathlib.Omega.{arith}
use Rattle.sets.specs.Sets.{members}
use Rattle.pending.specs.References.{stacked}
use Rattle.pending.specs.Sources.{items_from}
use Rattle.replace.specs.Replacing.{replace}
use Rattle.expand.proofs.Replacing.{called_refused, called_below, list_within, list_usage, list_barred, list_gives, replaced_refused, replaced_list, items_all}
use Rattle.expand.proofs.usages.replace_top.Goals as goal

pub overflow_sub-n : goal.overflow_sub-n
overflow_sub-n c =
    let a = c.args in
    let p = c.requires.1 in
    let ms = p.stored.macros in
    let h = p.stored.holds in
    let f = items_from a.s.now a.b.now a.list.now a.n false in
    let ranges = c.accept-f.new.ranges in
    list_within h a.w.now (members a.set) c.resolve-c.result (c.resolve-c.ensures ms h) _ c.in-Ok.is p.bytes_small c.read-q.ensures f a.n ranges (f 0) c.accept-f.result c.accept-f.ensures _ _ c.in-Ok-f.is

pub put_in-requires : goal.put_in-requires
put_in-requires c =
    let a = c.args in
    let p = c.requires.1 in
    let ms = p.stored.macros in
    let h = p.stored.holds in
    let f = items_from a.s.now a.b.now a.list.now a.n false in
    let ranges = c.accept-f.new.ranges in
    let i = called_below h a.w.now (members a.set) c.resolve-c.result (c.resolve-c.ensures ms h) _ c.in-Ok.is in (
      record {
        bytes_small = p.bytes_small;
        record_small = c.read-q.ensures.small;
        macro_small = omega (arith, i, p.few_macros);
        filled = omega (arith, c.requires.0, p.list_lent);
        base_small = omega (arith, c.requires.0);
        list_lent = p.list_lent;
        out_lent = p.out_lent;
        ranges_lent = omega (arith, p.ranges_lent, c.accept-f.auto.ranges);
      },
      list_usage h a.w.now (members a.set) c.resolve-c.result (c.resolve-c.ensures ms h) _ c.in-Ok.is p.bytes_small c.read-q.ensures f a.n ranges (f 0) c.accept-f.result c.accept-f.ensures _ _ c.in-Ok-f.is,
    )

pub returns-in-Err : goal.returns-in-Err
returns-in-Err c ms h =
    let a = c.args in
    let p = c.requires.1 in
    let ps = stacked a.s.now a.b.now a.list.now a.n in
    replaced_refused ms a.limit a.z _ _ _ (called_refused h a.w.now (members a.set) c.resolve-c.result (c.resolve-c.ensures ms h) _ c.in-Err.is ps)

pub returns-in-Ok-f : goal.returns-in-Ok-f
returns-in-Ok-f c ms h =
    let a = c.args in
    let p = c.requires.1 in
    let f = items_from a.s.now a.b.now a.list.now a.n false in
    let rest = stacked a.s.now a.b.now a.list.now (a.n - c.in-Ok-f.e) in
    let ranges = c.accept-f.new.ranges in
    let e = list_within h a.w.now (members a.set) c.resolve-c.result (c.resolve-c.ensures ms h) _ c.in-Ok.is p.bytes_small c.read-q.ensures f a.n ranges (f 0) c.accept-f.result c.accept-f.ensures _ _ c.in-Ok-f.is in
    replaced_list a.s.now a.b.now a.list.now c.put_in.new.list a.n _ ms a.w.now (members a.set) a.limit a.z c.put_in.result e
    (list_gives h a.w.now (members a.set) c.resolve-c.result (c.resolve-c.ensures ms h) _ c.in-Ok.is p.bytes_small c.read-q.ensures f a.n ranges (f 0) c.accept-f.result c.accept-f.ensures _ _ c.in-Ok-f.is a.s.now c.put_in.new.list rest a.limit a.z c.put_in.result c.put_in.ensures)

pub returns-in-Err-f : goal.returns-in-Err-f
returns-in-Err-f c ms h =
    let a = c.args in
    let p = c.requires.1 in
    let f = items_from a.s.now a.b.now a.list.now a.n false in
    let ranges = c.accept-f.new.ranges in
    replaced_refused ms a.limit a.z _ _ _
    (ap (replace ms a.w.now (members a.set)) (sym (items_all a.s.now a.b.now a.list.now a.n)) ∙ list_barred h a.w.now (members a.set) c.resolve-c.result (c.resolve-c.ensures ms h) _ c.in-Ok.is p.bytes_small c.read-q.ensures f a.n ranges (f 0) c.accept-f.result c.accept-f.ensures _ c.in-Err-f.is)
