-- `replace::push_value` meets its contract.
-- Assumes nothing.
use mathlib.Core.List.{[]}
use mathlib.Core.Path.{refl}
use lib.ListN.{get_or}
use Rattle.sets.specs.Sets.{members}
use Rattle.replace.specs.Tidying.{tidy_all}
use Rattle.replace.specs.Replacing.{fallback}
use Rattle.replace.proofs.Values.{else_default}
use Rattle.replace.proofs.Ready.{ready_on, ready_eq}
use Rattle.replace.proofs.push_value.Goals as goal

pub returns-then-m-at : goal.returns-then-m-at
returns-then-m-at c xs f d fs h e g =
    let a = c.args in
    let o = c.push_given.new.out in
    let p = c.in_ok-m.ensures xs e g in
    let y = c.push_fallback.ensures a.s.now f d fs h in
    let z = c.push_fallback.new.out in (
      else_default a.s.now a.b.now a.out.now o a.most a.at (members a.set) d
          (get_or (tidy_all xs) a.k []) p.0 c.if-m-at.true
          c.push_fallback.result z y,
      ready_on a.s.now a.b.now o a.at
          (ready_eq a.s.now a.b.now o _ (p.1 _ refl) c.if-m-at.true)
          c.push_fallback.result z a.most (fallback (members a.set) d) y,
    )
