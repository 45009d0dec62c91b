use mathlib.Core.Path.{refl, sym, ◌∙◌}
use native.Mathlib.Omega.{arith}
use Rattle.text.proofs.Matching.{same_end, same_differ, same_next, same_length}
use Rattle.text.proofs.same.Goals as goal

pub returns-then-s-word : goal.returns-then-s-word
returns-then-s-word c = sym (same_length _ _ c.if-s-word.true)

pub loop-i-init : goal.loop-i-init
loop-i-init c = (omega arith, refl)

pub returns-then-s-i : goal.returns-then-s-i
returns-then-s-i c = let l = c.loop-i in let a = c.args in
    sym (l.invariant.1 ∙ same_differ a.s.now a.word.now l.i (omega arith) (omega arith) c.if-s-i.true)

pub loop-i-preserved : goal.loop-i-preserved
loop-i-preserved c = let l = c.loop-i in let a = c.args in
    (omega arith, l.invariant.1 ∙ same_next a.s.now a.word.now l.i (omega arith) (omega arith) c.if-s-i.false)

pub returns : goal.returns
returns c = let l = c.loop-i in let a = c.args in
    sym (l.invariant.1 ∙ same_end a.s.now a.word.now l.i (omega arith) (omega arith))
