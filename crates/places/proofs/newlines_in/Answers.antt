use mathlib.Core.List.{List}
use mathlib.Core.Path.{sym, ap, ◌≡◌, ◌∙◌}
use native.Mathlib.Omega.{arith}
use Prim.Native.Nat.{ℕ, ◌+◌}
use lib.Dec.{eqb}
use lib.Seq.{take_all}
use borrow.Author.Tests.{eq-eqb, ne_eqb}
use Rattle.std.specs.List.{count_by}
use Rattle.std.proofs.lemmas.List.Sums.{count_by_more_yes, count_by_more_no}
use Rattle.places.specs.Places.{newlines}
use Rattle.places.proofs.Filling.{newlines_counted}
use Rattle.places.proofs.Lines.{newlines_length}
use Rattle.places.proofs.newlines_in.Goals as goal
use Rattle.places.proofs.newlines_in.Goals.{then-b-eq10, else-b-eq10}

pub loop-b-preserved : goal.loop-b-preserved
loop-b-preserved c = let l = c.loop-b in elim c.if-b-eq10.branch [
  | then-b-eq10 w ↦ w.n-is ∙ ap (λ n. n + 1) l.invariant ∙ sym (count_by_more_yes (λ (b : ℕ). eqb b 10) c.args.w.now l.b-index 0 (omega arith) (eq-eqb _ _ w.if-b-eq10.true))
  | else-b-eq10 w ↦ w.n-is ∙ l.invariant ∙ sym (count_by_more_no (λ (b : ℕ). eqb b 10) c.args.w.now l.b-index 0 (omega arith) (ne_eqb _ _ w.if-b-eq10.false))
]

pub returns : goal.returns
returns c =
    let a = c.args.w.now in
    let m : c.loop-b.n ≡ newlines a = c.loop-b.invariant ∙ ap (λ (xs : List ℕ). count_by (λ (b : ℕ). eqb b 10) xs) (take_all c.loop-b.b-index a (omega arith)) ∙ sym (newlines_counted a) in
    (m, omega (arith, m, newlines_length a))
