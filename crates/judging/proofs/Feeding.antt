-- Bytes read in one step or in several, and a loop that reads them.
-- Assumes nothing.
use Prim.Native.Nat.{ℕ, ◌+◌, ◌≤◌}
use mathlib.Core.List.{List, [], ◌++◌}
use mathlib.Core.Path.{◌≡◌, refl, ap, sym, ◌∙◌}
use native.Mathlib.Nat.{le_refl}
use native.Mathlib.Omega.{arith}
use lib.ListN.{length, length-append}
use Rattle.std.specs.Prelude.{Option, Some, None}
use Rattle.brackets.specs.Stacks.{Full}
use Rattle.brackets.proofs.Stacking.{full_more}
use Rattle.afresh.specs.declared.Reading.{Reading}
use Rattle.afresh.specs.States.{reading}
use Rattle.afresh.specs.Feeding.{state_of, Sound, FedBy}
use Rattle.afresh.proofs.Spaces.{reading_more}

-- the bytes xs were read, or the brackets have no room for them
abbrev pub ReadBy : Option Reading → Reading → List ℕ → List ℕ → List ℕ → List ℕ → List ℕ → Type 0
ReadBy f r xs name stack name' stack' = FedBy f r (length xs) (reading (state_of r name stack) xs) stack name' stack'

pub read_none : (r : Reading) (name stack : List ℕ) → Sound r name stack → ReadBy (Some r) r [] name stack name stack
unfolding reading
read_none r name stack s = (refl, s, omega arith)

-- What a loop has read so far, from r on: past it comes `rest`, and all of it is `whole`.
pub record Feeding (r : Reading) (name₀ stack₀ : List ℕ) (q : Reading) (name stack rest whole : List ℕ) : Type 0 where
  pub sound : Sound q name stack
  pub same_name : length name ≡ length name₀
  pub same_stack : length stack ≡ length stack₀
  pub reads : reading (state_of q name stack) rest ≡ reading (state_of r name₀ stack₀) whole
  pub depth : q.depth + length rest ≤ r.depth + length whole

pub feeding_first : {r : Reading} {name stack whole : List ℕ} → Sound r name stack → Feeding r name stack r name stack whole whole
feeding_first s = record { sound = s; same_name = refl; same_stack = refl; reads = refl; depth = le_refl _ }

module _ {r : Reading} {name₀ stack₀ : List ℕ} {q : Reading} {name stack rest whole : List ℕ} (a : Feeding r name₀ stack₀ q name stack rest whole) where
  -- the rest is read in one step
  pub feeding_last : (name' stack' : List ℕ) (f : Option Reading) → ReadBy f q rest name stack name' stack' → ReadBy f r whole name₀ stack₀ name' stack'
  feeding_last name' stack' (Some p) h = (h.0 ∙ a.reads, h.1, omega (arith, a.depth, h.2))
  feeding_last name' stack' None h = full_more stack₀ (q.depth + length rest) (r.depth + length whole) (rw a.same_stack at h) a.depth

  pub feeding_end : rest ≡ [] → ReadBy (Some q) r whole name₀ stack₀ name stack
  feeding_end e = feeding_last name stack (Some q) (rw e (read_none q name stack a.sound))

  -- a first part of the rest is read, or the brackets have no room for it
  module _ (ys left : List ℕ) (e : rest ≡ ys ++ left) {name' stack' : List ℕ} where
    pub feeding_next : {p : Reading} → ReadBy (Some p) q ys name stack name' stack' → length name' ≡ length name → length stack' ≡ length stack
        → Feeding r name₀ stack₀ p name' stack' left whole
    feeding_next d l m =
        let k : length rest ≡ length ys + length left = ap length e ∙ length-append ys left in
        record {
          sound = d.1;
          same_name = l ∙ a.same_name;
          same_stack = m ∙ a.same_stack;
          reads =
              ap (λ q. reading q left) d.0
              ∙ (sym (reading_more (state_of q name stack) ys left)
              ∙ (ap (reading (state_of q name stack)) (sym e) ∙ a.reads));
          depth = omega (arith, a.depth, d.2);
        }

  pub feeding_short : (ys left : List ℕ) → rest ≡ ys ++ left → Full stack (q.depth + length ys) → Full stack₀ (r.depth + length whole)
  feeding_short ys left e d =
      let k : length rest ≡ length ys + length left = ap length e ∙ length-append ys left in
      feeding_last [] [] None (full_more stack (q.depth + length ys) (q.depth + length rest) d (omega arith))
