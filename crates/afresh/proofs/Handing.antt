-- A reading handed to a callee with another name: without its last byte, or begun behind a grave accent.
-- Assumes nothing.
use Prim.Native.Nat.{ℕ, ◌+◌, ◌-◌, ◌≤◌}
use mathlib.Core.Bool.{Bool, true}
use mathlib.Core.List.{List, [], ◌∷◌}
use mathlib.Core.Path.{◌≡◌, refl, sym, ap, ◌∙◌, subst}
use native.Mathlib.Omega.{arith}
use lib.ListN.{length, set, length-set}
use lib.Seq.{take-suc-set}
use Rattle.brackets.specs.Stacks.{stack_of}
use Rattle.afresh.specs.States.{State, state, shorn, slant, closed, in_solid}
use Rattle.afresh.specs.Feeding.{state_of, Sound, FedBy}
use Rattle.afresh.specs.declared.Reading.{Reading}
use Rattle.std.specs.Prelude.{Option, Some}
use Rattle.afresh.proofs.Feeding.{named, name_shorn, named_sound, fed_as}

-- the reading r' that was handed on, by what it is
pub handed_sound : {r r' : Reading} {k m : ℕ} {g : Bool} {n w : List ℕ} → Sound r n w → r' ≡ named r k g m → m ≤ 1025 → Sound r' n w
handed_sound {r} {r'} {k} {m} {g} {n} {w} s e h = subst (λ (r : Reading). Sound r n w) (sym e) (named_sound r n w s k g m h)

-- past a `\` and a newline, with the name as it was
pub fed_line : {r r' : Reading} {n w : List ℕ} → Sound r n w → r' ≡ named r 13 r.grave r.count
    → FedBy (Some r') r 1 (state_of (named r 13 r.grave r.count) n w) w n w
fed_line {r} {r'} {n} {w} s e = (
  ap (λ (r : Reading). state_of r n w) e,
  handed_sound s e s.count,
  subst (λ (d : ℕ). d ≤ r.depth + 1) (sym (ap (λ (r : Reading). r.depth) e)) (omega arith),
)

module _ (F : State → ℕ → State) (f : Option Reading) (r r' : Reading) (k m : ℕ) (g : Bool) (b : ℕ) (n w n' w' : List ℕ)
    (e : r' ≡ named r k g m) (h : FedBy f r' 1 (F (state_of r' n w) b) w n' w') where
  fed_handed : (q : State) → state_of (named r k g m) n w ≡ q → FedBy f r 1 (F q b) w n' w'
  fed_handed q l =
      let a = subst (λ (r' : Reading). FedBy f r' 1 (F (state_of r' n w) b) w n' w') e h in
      subst (λ (q : State). FedBy f r 1 (F q b) w n' w') l (fed_as f (named r k g m) r (F (state_of (named r k g m) n w) b) w n' w' refl a)

module _ (f : Option Reading) (r : Reading) (b : ℕ) (n w n' w' : List ℕ) where
  -- the name without its last byte
  pub fed_shorn : {r' : Reading} {m : ℕ} → r.count ≤ length n → m ≡ r.count - 1 → r' ≡ named r 13 r.grave m
      → FedBy f r' 1 (closed (state_of r' n w) b) w n' w' → FedBy f r 1 (closed (shorn (state_of r n w)) b) w n' w'
  fed_shorn {r'} {m} l q e h =
      fed_handed closed f r r' 13 m r.grave b n w n' w' e h (shorn (state_of r n w))
      (ap (λ (m : ℕ). state_of (named r 13 r.grave m) n w) q ∙ name_shorn r n w l)

  -- no byte of the name yet
  pub fed_slanted : {r' : Reading} → r' ≡ named r 11 true 0 → FedBy f r' 1 (in_solid (state_of r' n w) b) w n' w'
      → FedBy f r 1 (in_solid (slant [] (state_of r n w)) b) w n' w'
  fed_slanted {r'} e h = fed_handed in_solid f r r' 11 0 true b n w n' w' e h (slant [] (state_of r n w)) refl

  -- a name that is a grave accent so far
  pub fed_twice : {r' : Reading} → 1025 ≤ length n → r' ≡ named r 11 true 1 → FedBy f r' 1 (in_solid (state_of r' (set n 0 96) w) b) w n' w'
      → FedBy f r 1 (in_solid (slant (96 ∷ []) (state_of r n w)) b) w n' w'
  fed_twice {r'} l e h =
      fed_handed in_solid f r r' 11 1 true b (set n 0 96) w n' w' e h (slant (96 ∷ []) (state_of r n w))
      (ap (λ (m : List ℕ). state 11 r.text r.marks true m (stack_of w r.depth)) (take-suc-set n 0 96 (omega arith)))

pub accent_sound : {r : Reading} {n w : List ℕ} → Sound r n w → Sound r (set n 0 96) w
accent_sound {r} {n} {w} s = record { long = rw (length-set n 0 96) s.long; count = s.count; depth = s.depth }
