use Prim.Native.Nat.{ℕ, ◌<◌}
use mathlib.Core.List.{List, []}
use mathlib.Core.Path.{◌≡◌, ap, ◌∙◌}
use native.Mathlib.Omega.{arith}
use lib.ListN.{length, take, get_or}
use lib.Seq.{get_or-take, length-take-le}
use Rattle.sets.specs.Sets.{elem, members}
use Rattle.pending.specs.Pending.{view}
use Rattle.pending.specs.References.{pend_of, pending_by}
use Rattle.passing.specs.Passing.{uses_of}
use Rattle.pass.proofs.Using.{uses_none, uses_more}
use Rattle.pass.proofs.uses_in.Goals as goal

pub loop-v-init : goal.loop-v-init
loop-v-init c ms j h = uses_none ms c.args.b.now c.args.list.now j c.empty-uses.ensures

pub loop-v-preserved : goal.loop-v-preserved
loop-v-preserved c ms j h =
    let a = c.args in
    let k : ℕ = c.loop-v.v-index in
    let long : length (take a.n a.list.now) ≡ a.n = length-take-le a.n a.list.now (omega arith) in
    let below : k < a.n = omega arith in
    let read : get_or (take a.n a.list.now) k [] ≡ get_or a.list.now k [] = get_or-take a.n a.list.now k [] below in
    uses_more ms a.b.now a.list.now j k (members c.loop-v.uses) (members c.with_use-uses.result) (omega arith) (c.loop-v.invariant ms j h)
    (c.with_use-uses.ensures ms j h ∙ ap (λ (v : List ℕ). elem j (uses_of (view (pending_by a.b.now a.b.now (pend_of v))) ms (members c.loop-v.uses))) read)
