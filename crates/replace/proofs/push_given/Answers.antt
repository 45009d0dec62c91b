-- `values::push_given` meets its contract.
-- Assumes nothing.
use mathlib.Core.Path.{sym}
use mathlib.Core.List.{[]}
use Prim.Native.Nat.{◌<◌}
use native.Mathlib.Omega.{arith}
use lib.ListN.{length, get_or}
use Rattle.std.proofs.Common.{None}
use Rattle.pending.specs.References.{pendings}
use lib.ListN.{take}
use Rattle.replace.specs.Tidying.{tidy_all}
use Rattle.replace.proofs.Values.{given_none, ranged_at, tidied_at, adds_as}
use Rattle.replace.proofs.Ready.{ready_on, ready_here, ready_full, before_at, placed_again, given_placed}
use Rattle.replace.proofs.push_given.Goals as goal

pub returns-then-given-k : goal.returns-then-given-k
returns-then-given-k c xs e g =
    let a = c.args in
    (given_none xs _ c.requires.3 (omega arith), ready_here a.s.now a.b.now a.out.now a.at g)

pub push_again-requires : goal.push_again-requires
push_again-requires c =
    let a = c.args in
    (before_at a.ranges.now a.given a.at a.k c.requires.2 (omega arith) c.requires.1 c.if-v.true, c.requires.3)

pub returns-then-v : goal.returns-then-v
returns-then-v c xs e g =
    let a = c.args in
    let r = c.push_again.result in
    let o = c.push_again.new.out in
    let h : a.k < length xs = omega arith in
    let q = placed_again a.ranges.now xs (pendings a.s.now a.b.now (take a.at a.out.now)) g a.k h c.requires.1 c.if-v.true in
    let d = adds_as r a.s.now a.b.now a.out.now o a.most a.at q (c.push_again.ensures a.s.now a.b.now) in
    (d, ready_on a.s.now a.b.now a.out.now a.at g r o a.most (get_or (tidy_all xs) a.k []) d)

pub returns : goal.returns
returns c xs e g =
    let a = c.args in
    let h : a.k < length xs = omega arith in
    let p = ranged_at a.ranges.now xs g.ranged a.k h c.requires.1 in
    given_placed a.s.now a.b.now a.out.now c.push_argument.new.out a.most a.at a.ranges.now xs a.k g h c.requires.1
    (omega (arith, c.requires.3)) (c.in_ok-m.ensures (get_or xs a.k []) p.0 p.1)

pub returns-in_err-m : goal.returns-in_err-m
returns-in_err-m c xs e g =
    let a = c.args in
    let o = c.push_argument.new.out in
    let h : a.k < length xs = omega arith in
    let p = ranged_at a.ranges.now xs g.ranged a.k h c.requires.1 in
    rw c.from_residual.ensures (
      adds_as None a.s.now a.b.now a.out.now o a.most a.at (sym (tidied_at xs a.k h))
          (c.in_err-m.ensures (get_or xs a.k []) p.0 p.1),
      λ m q. ready_full q,
    )
