-- `expand::usages::put_in` meets its contract.
-- Assumes nothing.
use Prim.Native.Nat.{◌-◌}
use native.Mathlib.Omega.{arith}
use Rattle.sets.specs.Sets.{insert_asc, members}
use Rattle.pending.specs.Adding.{AddsBy}
use Rattle.replace.specs.Tidying.{tidy_all}
use Rattle.replace.specs.Replacing.{text_with}
use Rattle.expand.proofs.Replacing.{fits_list, fits_out, puts_18, puts_full, puts_on}
use Rattle.expand.proofs.usages.put_in.Goals as goal

pub returns-then-limit-z : goal.returns-then-limit-z
returns-then-limit-z c fs t xs m g r = puts_18 _ _ c.args.limit c.args.z c.if-limit-z.true

pub stack_on-d-requires : goal.stack_on-d-requires
stack_on-d-requires c =
    let a = c.args in
    let u = c.requires.1 in
    let d = c.push_text-r.ensures u.formals u.text u.arguments u.macro_in u.count u.ranged in
    let o = c.push_text-r.new.out in
    let q = text_with (members c.insert-with.result) u.formals (tidy_all u.arguments) u.text in
    let f = fits_list a.s.now a.b.now a.out.now o a.base q c.push_text-r.result d _ c.in-Some.is c.requires.0.base_small in
    let k = fits_out a.s.now a.b.now a.out.now o a.base q c.push_text-r.result d _ c.in-Some.is c.requires.0.out_lent in
    (omega (arith, f, c.requires.0.list_lent), k)

pub overflow_add-base : goal.overflow_add-base
overflow_add-base c =
    let a = c.args in
    let u = c.requires.1 in
    let d = c.push_text-r.ensures u.formals u.text u.arguments u.macro_in u.count u.ranged in
    let o = c.push_text-r.new.out in
    let q = text_with (members c.insert-with.result) u.formals (tidy_all u.arguments) u.text in
    let f = fits_list a.s.now a.b.now a.out.now o a.base q c.push_text-r.result d _ c.in-Some.is c.requires.0.base_small in
    omega (arith, f)

pub returns-in-Some : goal.returns-in-Some
returns-in-Some c fs t xs m g r =
    let a = c.args in
    let o = c.push_text-r.new.out in
    let q = text_with (insert_asc a.i (members a.set)) fs (tidy_all xs) t in
    let d : AddsBy c.push_text-r.result a.s.now a.b.now a.out.now o (1024 - a.base) 0 q = rw c.insert-with.ensures at (c.push_text-r.ensures fs t xs m g r) in
    puts_on a.s.now a.b.now a.out.now o a.base q c.push_text-r.result d _ _ _ _ c.in-Some.is c.requires.0.base_small (omega (arith, c.if-limit-z.false)) (c.stack_on-d.ensures a.s.now a.b.now) c.replaced_to.ensures

pub returns-in-None : goal.returns-in-None
returns-in-None c fs t xs m g r =
    let a = c.args in
    let o = c.push_text-r.new.out in
    let q = text_with (insert_asc a.i (members a.set)) fs (tidy_all xs) t in
    let d : AddsBy c.push_text-r.result a.s.now a.b.now a.out.now o (1024 - a.base) 0 q = rw c.insert-with.ensures at (c.push_text-r.ensures fs t xs m g r) in
    puts_full a.s.now a.b.now a.out.now o a.base q c.push_text-r.result d a.list.now a.limit a.z c.in-None.is c.requires.0.base_small (omega (arith, c.if-limit-z.false))
