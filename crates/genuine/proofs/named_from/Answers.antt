use mathlib.Core.Path.{◌≡◌, ap, ◌∙◌}
use Prim.Native.Nat.{ℕ, ◌+◌, ◌-◌, ◌<◌}
use native.Mathlib.Omega.{arith}
use Rattle.genuine.specs.Layout.{named_from}
use Rattle.genuine.proofs.TestingFormals.{named_none, named_hit, named_next}
use Rattle.genuine.proofs.named_from.Goals as goal

pub returns-then-same : goal.returns-then-same
returns-then-same c = named_hit _ _ _ c.formal_name.ensures c.same.ensures _ (omega (arith, c.loop-test.true)) c.if-same.true ∙ c.loop.invariant.0

pub loop-preserved : goal.loop-preserved
loop-preserved c =
    let left : ℕ = c.args.count - c.loop.counter in
    let e : c.args.count - (c.loop.counter + 1) ≡ left - 1 = omega arith in
    let some : 0 < left = omega (arith, c.loop-test.true) in (
      ap (λ (k : ℕ). named_from k c.args.b.now c.formal_end-i.result c.args.w.now) e
          ∙ named_next _ _ _ c.formal_name.ensures c.same.ensures left some c.if-same.false c.formal_end-i.ensures
          ∙ c.loop.invariant.0,
      omega (arith, c.formal_end-i.ensures.1, c.loop.invariant.1),
    )

pub returns : goal.returns
returns c = named_none _ _ _ _ (omega (arith, c.loop-test.false)) ∙ c.loop.invariant.0
