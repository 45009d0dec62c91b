-- A hand-over that is taken is refused by 2 to 20 only, at a place in one of its files; 1 refuses exactly those not taken.
-- Assumes nothing.
use Prim.Native.Nat.{ℕ, zero, suc}
use mathlib.Core.Bool.{Bool, true, false}
use mathlib.Core.Path.{◌≡◌, refl, sym, subst}
use native.Mathlib.Omega.{arith}
use lib.Dec.{eqb}
use borrow.Author.Tests.{ne_eqb}
use Rattle.lex.proofs.Tests.{true_false}
use Rattle.handover.specs.Sizes.{HandOver, Rooms, is_sound}
use Rattle.turns.specs.States.{Context, State, Made, Turn, more, stop, finished}
use Rattle.turns.specs.Turns.{turn_at}
use Rattle.turns.specs.Runs.{Run, follow, run_for, measure, run_from, context_of, start_of, Outcome, flattened}
use Rattle.turns.specs.Through.{Through, start, next}
use Rattle.turns.proofs.Lines.{lines_are}
use Rattle.turns.proofs.RefusedTurns.{StopIn, TurnIn, turn_good, conds_are}
use Rattle.turns.proofs.Taken.{taken}

module _ (h : HandOver) (r : Rooms) where
  module _ (e : is_sound h r ≡ true) where
    abbrev x : Context
    x = context_of h r

    pub stop_in : (s : State) → Through x (start_of h r) s → (n f p : ℕ) (m : Made) → turn_at x s ≡ stop n f p m → StopIn x n f p
    unfolding TurnIn
    stop_in s t n f p m q = subst (TurnIn x) q (turn_good x s (lines_are h r e s t) (conds_are h r e s t))

    -- a run from a state that is reached
    RunIn : Run → Type 0
    RunIn u = eqb u.number 0 ≡ false → StopIn x u.number u.file u.byte

    run_in : (n : ℕ) (s : State) → Through x (start_of h r) s → RunIn (run_for n x s)
    unfolding RunIn run_for
    run_in zero s t = λ q. true_false true refl q
    run_in (suc n) s t = go (turn_at x s) refl (λ s' k. run_in n s' k)
      where
        go : (u : Turn) → turn_at x s ≡ u → ((s' : State) → Through x (start_of h r) s' → RunIn (run_for n x s')) → RunIn (follow s u (λ s'. run_for n x s'))
        go (more s' m) q ih = ih s' (next t q)
        go (stop k f p m) q ih = λ z. stop_in s t k f p m q
        go finished q ih = λ z. true_false true refl z

    -- where a refusal stands, and by which number
    pub refused_in : ((flattened h r).number ≡ 0 → ⊥) → StopIn x (flattened h r).number (flattened h r).file (flattened h r).byte
    unfolding RunIn run_from
    refused_in f =
        subst (λ (o : Outcome). StopIn x o.number o.file o.byte) (sym (taken h r e))
        (run_in (measure x (start_of h r).frames) (start_of h r) start
        (subst (λ (o : Outcome). eqb o.number 0 ≡ false) (taken h r e) (ne_eqb (flattened h r).number 0 f)))

  -- 1 is given exactly if the hand-over is not sound
  pub one_exactly : (flattened h r).number ≡ 1 → is_sound h r ≡ false
  one_exactly q = go (is_sound h r) refl
    where
      go : (b : Bool) → is_sound h r ≡ b → is_sound h r ≡ false
      go true e = let k = refused_in e (λ z. omega arith) in absurd (omega (arith, k.low))
      go false e = e

  pub unsound_one : is_sound h r ≡ false → (flattened h r).number ≡ 1
  unfolding flattened
  unsound_one e = rw e
