use mathlib.Core.Path.{refl, ◌∙◌}
use native.Mathlib.Omega.{arith}
use Rattle.storing.proofs.Reading.{token_past}
use Rattle.replace.proofs.Ready.{ready_before}
use Rattle.replace.proofs.Texts.{placed_more, placed_full, placed_all, part_own, token_inside}
use Rattle.replace.proofs.push_text.Goals as goal

pub push_image-requires : goal.push_image-requires
push_image-requires c =
    let a = c.args in
    let h = c.requires in
    let u = h.5 in
    let v = c.loop-i.invariant in
    record {
      filled = h.0;
      ranges = omega (arith, h.1, v.2);
      placed = ready_before a.s.now a.b.now c.loop-i.out c.loop-i.k
          (v.3 u.formals u.text u.arguments u.macro_in u.count u.ranged).1 (omega (arith, h.4, v.0, v.1)) u.count;
      bytes = h.2;
      formals = omega (arith, c.peek-count.type_inv);
      first_small = omega (arith, h.3);
      part_is = part_own _ _ _ _ c.part_of-w.ensures;
      base_small = omega (arith, h.3);
      inside = token_inside _ _ _ _ c.token_at-t.ensures c.loop-i-test.true;
      takes = record { filled = v.1; lent = omega (arith, h.4, v.0) };
    }

pub loop-i-smaller : goal.loop-i-smaller
loop-i-smaller c = omega (arith, token_past _ _ _ _ c.token_at-t.ensures c.loop-i-test.true)

pub loop-i-preserved : goal.loop-i-preserved
loop-i-preserved c =
    let u = c.requires.5 in (
      c.push_image.auto.out ∙ c.loop-i.invariant.0,
      (placed_more (c.loop-i.invariant.3 u.formals u.text u.arguments u.macro_in u.count u.ranged).0 _ _ _ _ _ c.loop-i-test.true c.in_text.ensures c.token_at-t.ensures (c.in_ok-k.ensures u.arguments u.formals u.macro_in.formals (c.peek-count.ensures ∙ u.macro_in.count) u.count (c.loop-i.invariant.3 u.formals u.text u.arguments u.macro_in u.count u.ranged).1).0 c.marks_after-marks.ensures).adds.fits,
      c.push_image.auto.ranges ∙ c.loop-i.invariant.2,
      λ fs t xs m g r.
          let p = c.in_ok-k.ensures xs fs m.formals (c.peek-count.ensures ∙ m.count) g (c.loop-i.invariant.3 fs t xs m g r).1 in (
            placed_more (c.loop-i.invariant.3 fs t xs m g r).0 _ _ _ _ _ c.loop-i-test.true c.in_text.ensures c.token_at-t.ensures p.0 c.marks_after-marks.ensures,
            p.1 _ refl,
          ),
    )

pub returns-in_err-k : goal.returns-in_err-k
returns-in_err-k c fs t xs m g r =
    let v = c.loop-i.invariant.3 fs t xs m g r in
    rw c.from_residual.ensures (placed_full v.0 _ _ _ t c.loop-i-test.true c.in_text.ensures c.token_at-t.ensures (c.in_err-k.ensures xs fs m.formals (c.peek-count.ensures ∙ m.count) g v.1).0 (c.part_of-w.ensures ∙ m.text))

pub returns : goal.returns
returns c fs t xs m g r = placed_all (c.loop-i.invariant.3 fs t xs m g r).0 t c.loop-i-test.false (c.part_of-w.ensures ∙ m.text)
