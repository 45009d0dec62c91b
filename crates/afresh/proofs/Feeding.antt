-- The answers that a reader of one byte gives, and a callee's answer taken over.
-- Assumes nothing.
use Prim.Native.Nat.{ℕ, ◌+◌, ◌-◌, ◌*◌, ◌<◌, ◌≤◌}
use mathlib.Core.Bool.{Bool, true, false, cond, not}
use mathlib.Core.List.{List}
use mathlib.Core.Path.{◌≡◌, refl, sym, ap, ◌∙◌, subst}
use native.Mathlib.Numerals.{add-one}
use native.Mathlib.Omega.{arith}
use lib.ListN.{length, take, set, length-set}
use lib.Seq.{take-suc-set, take-take, length-take-le}
use borrow.Author.Tests.{le-leb, lt-leb}
use Rattle.brackets.specs.Stacks.{stack_of}
use Rattle.brackets.proofs.Stacking.{full_more}
use Rattle.afresh.specs.States.{State, state, at, naming, longer, shorn, turned, Start, Bad}
use Rattle.afresh.specs.Feeding.{state_of, Sound, FedBy}
use Rattle.afresh.specs.declared.Reading.{Reading}
use Rattle.std.specs.Prelude.{Option, Some, None}

-- the reading in another state, with a name of m bytes
abbrev pub named : Reading → ℕ → Bool → ℕ → Reading
named r k g m = record { state = k; text = r.text; marks = r.marks; grave = g; count = m; depth = r.depth }

module _ (r : Reading) (n w : List ℕ) where
  pub sound : 1025 ≤ length n → r.count ≤ 1025 → r.depth ≤ 4 * length w → Sound r n w
  sound a b c = record { long = a; count = b; depth = c }

  -- a name has as many bytes as the reading counts
  pub name_length : r.count ≤ length n → length (take r.count n) ≡ r.count
  name_length h = length-take-le r.count n h

  -- the name without its last byte
  pub name_shorn : r.count ≤ length n → state_of (named r 13 r.grave (r.count - 1)) n w ≡ shorn (state_of r n w)
  name_shorn h =
      ap (λ (m : List ℕ). state 13 r.text r.marks r.grave m (stack_of w r.depth))
      (sym (take-take (r.count - 1) r.count n (omega arith))
      ∙ ap (λ (m : ℕ). take (m - 1) (take r.count n)) (sym (name_length h)))

  module _ (s : Sound r n w) where
    -- read on in another state
    pub named_sound : (k : ℕ) (g : Bool) (m : ℕ) → m ≤ 1025 → Sound (named r k g m) n w
    named_sound k g m h = record { long = s.long; count = h; depth = s.depth }

    -- a name begun with b
    pub fed_start : (k : ℕ) (g : Bool) (b : ℕ) → FedBy (Some (named r k g 1)) r 1 (naming k g (state_of r n w) b) w (set n 0 b) w
    fed_start k g b = (
      ap (λ (m : List ℕ). state k r.text r.marks g m (stack_of w r.depth)) (take-suc-set n 0 b (omega arith)),
      record { long = rw (length-set n 0 b) s.long; count = omega arith; depth = s.depth },
      omega arith,
    )

    module _ (most k b : ℕ) where
      -- a name that has all its bytes, and one that goes on with b
      pub longer_full : most ≤ r.count → longer most k (state_of r n w) b ≡ at Bad (state_of r n w)
      longer_full h = rw (name_length (omega arith), le-leb most r.count h)

      pub fed_longer : r.count < most → most ≤ 1025
          → FedBy (Some (named r k r.grave (r.count + 1))) r 1 (longer most k (state_of r n w) b) w (set n r.count b) w
      fed_longer h l = (
        rw (name_length (omega arith), lt-leb most r.count h, add-one)
            (ap (λ (m : List ℕ). state k r.text r.marks r.grave m (stack_of w r.depth)) (take-suc-set n r.count b (omega arith))),
        record { long = rw (length-set n r.count b) s.long; count = omega arith; depth = s.depth },
        omega arith,
      )

-- read on
pub fed_on : {f : Option Reading} {r' : Reading} (r : Reading) (q : State) (w n' w' : List ℕ) → f ≡ Some r' → state_of r' n' w' ≡ q → Sound r' n' w'
    → r'.depth ≤ r.depth + 1 → FedBy f r 1 q w n' w'
fed_on r q w n' w' e h s d = subst (λ (f : Option Reading). FedBy f r 1 q w n' w') (sym e) (h, s, d)

-- in another state, without a name
pub fed_at : {f : Option Reading} {r : Reading} {k : ℕ} {n w : List ℕ} → Sound r n w → f ≡ Some (named r k false 0)
    → FedBy f r 1 (at k (state_of r n w)) w n w
fed_at {f} {r} {k} {n} {w} s e =
    fed_on r (at k (state_of r n w)) w n w e refl (named_sound r n w s k false 0 (omega arith)) (omega arith)

-- past a quote mark
pub fed_turned : {f : Option Reading} {r : Reading} {n w : List ℕ} → Sound r n w
    → f ≡ Some (record { state = 0; text = r.text; marks = not r.marks; grave = false; count = 0; depth = r.depth })
    → FedBy f r 1 (turned (state_of r n w)) w n w
fed_turned {f} {r} {n} {w} s e =
    fed_on r (turned (state_of r n w)) w n w e refl (record { long = s.long; count = omega arith; depth = s.depth }) (omega arith)

-- past a newline, by whether it stands between quote marks
module _ {f : Option Reading} {r : Reading} {n w : List ℕ} (s : Sound r n w) where
  pub fed_marked : r.marks ≡ true → f ≡ Some (named r 17 false 0)
      → FedBy f r 1 (cond r.marks (at Bad (state_of r n w)) (at Start (state_of r n w))) w n w
  fed_marked t e =
      subst (λ (t : Bool). FedBy f r 1 (cond t (at Bad (state_of r n w)) (at Start (state_of r n w))) w n w) (sym t) (fed_at s e)

  pub fed_plain : r.marks ≡ false → f ≡ Some (named r 0 false 0)
      → FedBy f r 1 (cond r.marks (at Bad (state_of r n w)) (at Start (state_of r n w))) w n w
  fed_plain t e =
      subst (λ (t : Bool). FedBy f r 1 (cond t (at Bad (state_of r n w)) (at Start (state_of r n w))) w n w) (sym t) (fed_at s e)

-- a callee that was given another reading with the same brackets
pub fed_as : (f : Option Reading) (r r' : Reading) (q : State) (w n' w' : List ℕ) → r.depth ≡ r'.depth → FedBy f r 1 q w n' w'
    → FedBy f r' 1 q w n' w'
fed_as (Some a) r r' q w n' w' e (h, s, d) = (h, s, omega arith)
fed_as None r r' q w n' w' e h = full_more w (r.depth + 1) (r'.depth + 1) h (omega arith)
