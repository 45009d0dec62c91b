-- A byte that is a token: in a text, and in a default by the step that it takes among the brackets.
-- Assumes nothing.
use Prim.Native.Nat.{ℕ, ◌+◌}
use mathlib.Core.Bool.{Bool, true, false, cond}
use mathlib.Core.List.{List, []}
use mathlib.Core.Path.{◌≡◌, refl, sym, subst}
use native.Mathlib.Omega.{arith}
use lib.ListN.{length}
use Rattle.brackets.specs.Steps.{Step, on, done, torn, step_of}
use Rattle.brackets.specs.Stacks.{stack_of, Full, SteppedBy}
use Rattle.brackets.specs.declared.Stepped.{Stepped}
use Rattle.brackets.specs.declared.Stepped.TheVariants as stepped
use Rattle.brackets.proofs.Stacking.{full_more, stepped_on, stepped_done, stepped_torn, stepped_short}
use Rattle.afresh.specs.States.{state, at, by_bracket, single, Start, Bad}
use Rattle.afresh.specs.Feeding.{state_of, Sound, FedBy}
use Rattle.afresh.specs.declared.Reading.{Reading}
use Rattle.std.specs.Prelude.{Option, Some}
use Rattle.afresh.proofs.Feeding.{named, fed_on, fed_at}

module _ (r : Reading) (b : ℕ) (n w : List ℕ) (s : Sound r n w) (f : Option Reading) where
  pub single_text : r.text ≡ true → f ≡ Some (named r 0 false 0) → FedBy f r 1 (single (state_of r n w) b) w n w
  single_text t e =
      subst (λ (t : Bool). FedBy f r 1 (cond t (at Start (state_of r n w)) (by_bracket (state_of r n w) (step_of b (stack_of w r.depth)))) w n w) (sym t)
      (fed_at s e)

  -- a: the step, which left the buffer at w'
  module _ (t : r.text ≡ false) (w' : List ℕ) (a : Stepped) (h : SteppedBy a (step_of b (stack_of w r.depth)) w w' r.depth) where
    single_by : (p : Step) → step_of b (stack_of w r.depth) ≡ p → FedBy f r 1 (by_bracket (state_of r n w) p) w n w'
        → FedBy f r 1 (single (state_of r n w) b) w n w'
    single_by p e g =
        subst (λ (t : Bool). FedBy f r 1 (cond t (at Start (state_of r n w)) (by_bracket (state_of r n w) (step_of b (stack_of w r.depth)))) w n w') (sym t)
        (subst (λ (p : Step). FedBy f r 1 (by_bracket (state_of r n w) p) w n w') (sym e) g)

    -- what is bad leaves the buffer as it was
    single_bad : w' ≡ w → f ≡ Some (named r 17 false 0) → FedBy f r 1 (at Bad (state_of r n w)) w n w'
    single_bad l q = subst (λ (w' : List ℕ). FedBy f r 1 (at Bad (state_of r n w)) w n w') (sym l) (fed_at s q)

    pub single_on : (d : ℕ) → a ≡ stepped.On d → length w' ≡ length w
        → f ≡ Some (record { state = 0; text = r.text; marks = r.marks; grave = false; count = 0; depth = d })
        → FedBy f r 1 (single (state_of r n w) b) w n w'
    single_on d e l q =
        let p = stepped_on a (step_of b (stack_of w r.depth)) w w' r.depth h d e in
        single_by (on (stack_of w' d)) p.0
        (fed_on r (state 0 r.text r.marks false [] (stack_of w' d)) w n w' q refl
        (record { long = s.long; count = omega arith; depth = omega arith })
        (omega arith))

    pub single_done : a ≡ stepped.Done → f ≡ Some (named r 17 false 0) → FedBy f r 1 (single (state_of r n w) b) w n w'
    single_done e q =
        let p = stepped_done a (step_of b (stack_of w r.depth)) w w' r.depth h e in
        single_by done p.0 (single_bad p.1 q)

    pub single_torn : a ≡ stepped.Torn → f ≡ Some (named r 17 false 0) → FedBy f r 1 (single (state_of r n w) b) w n w'
    single_torn e q =
        let p = stepped_torn a (step_of b (stack_of w r.depth)) w w' r.depth h e in
        single_by torn p.0 (single_bad p.1 q)

    pub single_short : a ≡ stepped.Short → Full w (r.depth + 1)
    single_short e = full_more w r.depth (r.depth + 1) (stepped_short a (step_of b (stack_of w r.depth)) w w' r.depth h e) (omega arith)
