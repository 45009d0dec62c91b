-- What the end of a text leaves bad: a name behind a grave accent, brackets due, a state.
-- Assumes nothing.
use Prim.Native.Nat.{ℕ, zero, suc, ◌-◌, ◌≤◌}
use mathlib.Core.Bool.{true, false, not, ◌||◌}
use mathlib.Core.List.{List, [], ◌∷◌}
use mathlib.Core.Path.{◌≡◌, refl, sym, ap, ◌∙◌}
use native.Mathlib.Omega.{arith}
use lib.Dec.{eqb, leb, ltb}
use lib.ListN.{length, take}
use borrow.Author.Tests.{lt-ltb, not-true, not-false}
use Rattle.text.specs.Bytes.{part}
use Rattle.names.specs.Names.{directive_of}
use Rattle.brackets.specs.Stacks.{stack_of}
use Rattle.afresh.specs.Unfit.{is_open}
use Rattle.afresh.specs.States.{State, spoilt, is_string, leaves}
use Rattle.afresh.specs.Feeding.{state_of}
use Rattle.afresh.specs.declared.Reading.{Reading}

name_open : (n : List ℕ) (m : ℕ) → (m ≡ 0 → ⊥) → m ≤ length n → is_open (take m n) ≡ true
name_open [] zero h l = absurd (h refl)
name_open [] (suc m) h l = absurd (omega arith)
name_open (x ∷ n) zero h l = absurd (h refl)
name_open (x ∷ n) (suc m) h l = refl

pub stack_open : (w : List ℕ) (d : ℕ) → is_open (stack_of w d) ≡ ltb 0 d
unfolding stack_of
stack_open w zero = refl
stack_open w (suc d) = sym (lt-ltb 0 (suc d) (omega arith))

-- a name behind a grave accent
module _ (r : Reading) (n w : List ℕ) where
  pub spoilt_plain : not r.grave ≡ true → false ≡ spoilt (state_of r n w)
  spoilt_plain g = rw (not-true r.grave g)

  module _ (g : not r.grave ≡ false) where
    pub spoilt_empty : r.count ≡ 0 → true ≡ spoilt (state_of r n w)
    spoilt_empty e = rw (not-false r.grave g, e)

    pub spoilt_named : (r.count ≡ 0 → ⊥) → r.count ≤ length n → (p : List ℕ) → p ≡ part n 0 r.count → (d : ℕ) → d ≡ directive_of p
        → ltb 2 d ≡ spoilt (state_of r n w)
    spoilt_named e l p ep d ed =
        let z : r.count - 0 ≡ r.count = omega arith in
        rw (not-false r.grave g, name_open n r.count e l, ed, ep ∙ ap (λ (m : ℕ). take m n) z)

-- a state at the end
module _ (q : State) where
  pub leaves_name : (eqb q.kind 1 || (eqb q.kind 5 || eqb q.kind 11)) ≡ true → leaves q ≡ spoilt q
  unfolding leaves
  leaves_name h = rw h

  module _ (h : (eqb q.kind 1 || (eqb q.kind 5 || eqb q.kind 11)) ≡ false) where
    pub leaves_doubt : (eqb q.kind 12 || eqb q.kind 13) ≡ true → leaves q ≡ (ltb 1024 (length q.name) || spoilt q)
    unfolding leaves
    leaves_doubt e = rw (h, e)

    pub leaves_other : (eqb q.kind 12 || eqb q.kind 13) ≡ false
        → leaves q ≡ (is_string q || (eqb q.kind 14 || (eqb q.kind 15 || leb 17 q.kind)))
    unfolding leaves
    leaves_other e = rw (h, e)
