-- `replace::push_image` meets its contract.
-- Assumes nothing.
use mathlib.Core.List.{[], ◌∷◌}
use native.Mathlib.Omega.{arith}
use Rattle.sets.specs.Sets.{members}
use Rattle.pending.specs.References.{pending_by}
use Rattle.replace.specs.Tidying.{tidy_all}
use Rattle.replace.proofs.Ready.{ready_on}
use Rattle.replace.proofs.Texts.{at_formal, image_value, image_kept, image_none, image_other}
use Rattle.replace.proofs.push_image.Goals as goal

pub returns-then-f-count : goal.returns-then-f-count
returns-then-f-count c xs fs g n m r =
    let a = c.args in
    let v = c.formal_of-f.result in
    let i = c.formal_of-f.ensures.2 fs g n in (
      image_value _ _ _ _ _ _ c.push_value.result (members a.set) a.w.now a.t fs (tidy_all xs) _ v c.if-t.true c.part_of.ensures i (omega (arith, c.if-f-count.true, n))
          (λ f d rest e. (c.push_value.ensures xs f d rest e m r).0),
      at_formal a.b.now fs _ v i (omega (arith, c.if-f-count.true, n)) (λ f d rest e. (c.push_value.ensures xs f d rest e m r).1),
    )

pub returns-then-t : goal.returns-then-t
returns-then-t c xs fs g n m r =
    let a = c.args in
    let h = c.requires in
    let y = c.push.ensures a.s.now a.b.now in (
      image_kept _ _ _ _ _ _ c.push.result a.set a.w.now a.t fs (tidy_all xs) a.base _ h.part_is h.inside.0 h.inside.1 h.inside.2 c.stored_ref.ensures
          (image_none (members a.set) a.w.now a.t fs (tidy_all xs) c.if-t.true c.part_of.ensures (c.formal_of-f.ensures.2 fs g n) (omega (arith, c.if-f-count.false, c.formal_of-f.ensures.0, n)))
          y,
      ready_on a.s.now a.b.now a.out.now a.at r c.push.result c.push.new.out a.most (pending_by a.s.now a.b.now c.stored_ref.result ∷ []) y,
    )

pub returns : goal.returns
returns c xs fs g n m r =
    let a = c.args in
    let h = c.requires in
    let y = c.push-2.ensures a.s.now a.b.now in (
      image_kept _ _ _ _ _ _ c.push-2.result a.set a.w.now a.t fs (tidy_all xs) a.base _ h.part_is h.inside.0 h.inside.1 h.inside.2 c.stored_ref-2.ensures
          (image_other (members a.set) a.w.now a.t fs (tidy_all xs) c.if-t.false)
          y,
      ready_on a.s.now a.b.now a.out.now a.at r c.push-2.result c.push-2.new.out a.most (pending_by a.s.now a.b.now c.stored_ref-2.result ∷ []) y,
    )
