-- Demand 3 as one claim.
-- Assumes nothing.
use Prim.Native.Nat.{ℕ, ◌≤◌}
use mathlib.Core.Path.{◌≡◌, sym, ap, subst, ◌∙◌}
use mathlib.Core.Bool.{true}
use mathlib.Core.List.{List}
use borrow.Author.Tests.{ne_eqb}
use Rattle.definition.specs.Definitions.{Macro}
use Rattle.handover.specs.Sizes.{HandOver, Rooms, is_sound}
use Rattle.turns.specs.States.{State, stop, Here}
use Rattle.turns.specs.Usages.{usage_place, made_by}
use Rattle.turns.specs.Turns.{turn_at}
use Rattle.turns.specs.Runs.{Run, context_of, start_of, flattened}
use Rattle.turns.proofs.Running.{run_stop}
use Rattle.turns.specs.Through.{Through}
use Rattle.passing.specs.Meeting.{Meets, expansion_at, Soft, Part}
use Rattle.passing.proofs.Exact.{pass_words, pass_first, chain_exact}
use Rattle.passing.proofs.Claims.{recursive}
use Rattle.passing.proofs.Whole.{demand3}
use Rattle.flatten.specs.Flattening.{Lent, rooms_of, Flattens}
use Rattle.flatten.specs.declared.Flattened.{Flattened}
use Rattle.claims.specs.Demands.{PassRight, Returned, DemandThree}
use Rattle.turns.proofs.Taken.{taken}

pass_right : (ms : List Macro) → PassRight ms
pass_right ms = record { exact = pass_words ms; names_first = pass_first ms; longest = chain_exact ms }

module _ (h : HandOver) (r : Rooms) (e : is_sound h r ≡ true) where
  module _ (s : State) (b : Here) (w : List ℕ) (t : Through (context_of h r) (start_of h r) s) (m : Meets (context_of h r) s b w)
      (n : (expansion_at b w).stop ≡ 0 → ⊥) where
    stops : turn_at (context_of h r) s ≡ stop (expansion_at b w).stop b.frame.file (usage_place b (expansion_at b w)) (made_by (expansion_at b w))
    stops =
        (demand3 h r).turn_is s b w t m
        ∙ rw (ne_eqb (expansion_at b w).stop 0 n)

    -- the run ends there, with the refusal of the usage
    number_is : (flattened h r).number ≡ (expansion_at b w).stop
    number_is =
        let p : Part (context_of h r) (start_of h r) s = (demand3 h r).part e s t in
        ap (λ o. o.number) (taken h r e) ∙ ap (λ (u : Run). u.number) p.whole
        ∙ ap (λ (u : Run). u.number)
        (run_stop (context_of h r) s (expansion_at b w).stop b.frame.file (usage_place b (expansion_at b w)) (made_by (expansion_at b w)) stops)

returned : (h : HandOver) (l l' : Lent) (a : Flattened) → Flattens h l l' a → Returned h l a
returned h l l' a f =
    record {
      deepest = λ n k. subst (λ (x : ℕ). x ≤ n) (sym (ap (λ (z : Flattened). z.deepest) f.leaves.answer)) ((demand3 h (rooms_of l)).deepest n k);
      refused =
          λ e s b w t m k n.
          let q : a.number ≡ (expansion_at b w).stop = ap (λ (z : Flattened). z.number) f.leaves.answer ∙ number_is h (rooms_of l) e s b w t m n in
          (q, subst Soft (sym q) ((demand3 h (rooms_of l)).each_soft s b w t m k));
    }

pub demand_three : DemandThree
demand_three = record { bench = recursive; pass_right = pass_right; each_hand_over = demand3; returned = returned }
