use Prim.Native.Nat.{◌<◌}
use mathlib.Core.Path.{◌∙◌}
use native.Mathlib.Omega.{arith}
use lib.ListN.{length, length-set}
use Rattle.pass.proofs.Rows.{row_more}
use Rattle.pass.proofs.fill_rows.Goals as goal

pub loop-i-preserved : goal.loop-i-preserved
loop-i-preserved c =
    let l : c.loop-i.i < length c.loop-i.rows = omega (arith, c.requires.0.few_macros, c.requires.2, c.loop-i.invariant.1) in (
      c.uses_of.auto.list ∙ c.loop-i.invariant.0,
      length-set c.loop-i.rows c.loop-i.i c.row_of.result ∙ c.loop-i.invariant.1,
      λ ms a j h k. row_more ms c.loop-i.rows c.loop-i.i c.row_of.ensures l (λ x y z. c.loop-i.invariant.2 ms x y h z) (λ y. c.uses_of.ensures ms y h) a j k,
    )
