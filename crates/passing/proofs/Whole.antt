-- Demand 3 over whole flattenings, from what is known of each usage that a run meets.
-- Assumes nothing.
use Prim.Native.Nat.{ℕ, zero, suc, ◌≤◌}
use mathlib.Core.Bool.{true}
use mathlib.Core.List.{List}
use mathlib.Core.Path.{◌≡◌, refl, ap, sym, subst, ◌∙◌}
use native.Mathlib.Omega.{arith}
use Rattle.lex.proofs.Tests.{by_test}
use Rattle.store.specs.Stores.{macro_at}
use Rattle.handover.specs.Entries.{all_entries}
use Rattle.handover.specs.Sizes.{HandOver, Rooms, is_sound}
use Rattle.handover.proofs.Laws.{sound_facts}
use Rattle.turns.specs.States.{Context, State, Made, nothing, Turn, more, stop, finished, Here}
use Rattle.turns.specs.Usages.{outer_of}
use Rattle.turns.specs.Turns.{turn_at}
use Rattle.turns.specs.Runs.{Run, onto, follow, run_for, run_from, measure, Outcome, context_of, start_of, flattened}
use Rattle.turns.proofs.Running.{run_more, onto_nothing, joined, onto_twice}
use Rattle.passing.specs.Passing.{formals_of}
use Rattle.passing.specs.Chains.{chain_from}
use Rattle.turns.specs.Through.{Through, start, next}
use Rattle.passing.specs.Meeting.{Meets, expansion_at, Tame, Soft, Part, Demand3}
use Rattle.passing.proofs.Keeping.{Sound}
use Rattle.passing.proofs.Fit.{sound_through}
use Rattle.passing.proofs.Depths.{TurnIn, turn_in, turn_met}
use Rattle.passing.proofs.Heart.{heart}

-- ---- what was made before a state

-- the run from a state that it goes through is the rest of the whole
pub part : (x : Context) (s₀ s : State) → all_entries x.store x.table ≡ true → Through x s₀ s → Part x s₀ s
part x s₀ s ok start = record { made = nothing; whole = onto_nothing (run_from x s₀) }
part x s₀ s ok (next {s₁ = s₁} {m = m} t e) =
    let p = part x s₀ s₁ ok t in
    record {
      made = joined p.made m;
      whole = p.whole ∙ ap (onto p.made) (run_more x s₁ s m ok e) ∙ onto_twice p.made m (run_from x s);
    }

-- ---- the depth of a run none of whose turns goes deeper

follow_in : (n : ℕ) (s : State) (t : Turn) (go : State → Run) → TurnIn n t
    → ((s' : State) (m : Made) → t ≡ more s' m → (go s').depth ≤ n) → (follow s t go).depth ≤ n
unfolding TurnIn
follow_in n s (more s' m) go k l = let j : (go s').depth ≤ n = l s' m refl in omega arith
follow_in n s (stop i f p m) go k l = omega arith
follow_in n s finished go k l = omega arith

run_in : (n : ℕ) (x : Context) (s₀ : State) → ((s : State) → Through x s₀ s → TurnIn n (turn_at x s)) → (f : ℕ) (s : State)
    → Through x s₀ s → (run_for f x s).depth ≤ n
unfolding run_for
run_in n x s₀ all zero s t = omega arith
run_in n x s₀ all (suc f) s t =
    follow_in n s (turn_at x s) (λ s'. run_for f x s') (all s t) (λ s' m e. run_in n x s₀ all f s' (next t e))

-- ---- demand 3

module _ (h : HandOver) (r : Rooms)
    (each : (s : State) (a : Here) (w : List ℕ) → Through (context_of h r) (start_of h r) s → Meets (context_of h r) s a w → Tame a w
    → Soft (expansion_at a w).stop × ((expansion_at a w).depth ≤ chain_from s.macros w)) where
  flat_in : (n : ℕ)
      → ((s : State) (a : Here) (w : List ℕ) → Through (context_of h r) (start_of h r) s → Meets (context_of h r) s a w → Tame a w × (chain_from s.macros w ≤ n))
      → (flattened h r).depth ≤ n
  unfolding flattened run_from
  flat_in n met =
      let x : Context = context_of h r in
      let s₀ : State = start_of h r in
      by_test (λ (o : Outcome). o.depth ≤ n) (is_sound h r)
      (λ q. run_in n x s₀
      (λ s t. turn_in n x s
      (λ a w m. let k : chain_from s.macros w ≤ n = (met s a w t m).1 in
      let d : (expansion_at a w).depth ≤ chain_from s.macros w = (each s a w t m (met s a w t m).0).1 in
      omega arith))
      (measure x s₀.frames) s₀ start)
      (λ q. omega arith)

  pub demand3_of : Demand3 h r
  demand3_of =
      record {
        part = λ e s t. part (context_of h r) (start_of h r) s (sound_facts h r e).entries t;
        turn_is = λ s a w t m. turn_met (context_of h r) s a w m;
        each_soft = λ s a w t m k. (each s a w t m k).0;
        each_deep = λ s a w t m k. (each s a w t m k).1;
        deepest = flat_in;
      }

-- the usages that are met
met_soft : (x : Context) (s : State) (a : Here) (w : List ℕ) → ((i : ℕ) → Sound (formals_of (macro_at s.macros i))) → Meets x s a w
    → Tame a w → Soft (expansion_at a w).stop × ((expansion_at a w).depth ≤ chain_from s.macros w)
met_soft x s a w k m t =
    let q : a.state ≡ s = ap (λ (b : Here). b.state) m.here_is in
    let k' : (i : ℕ) → Sound (formals_of (macro_at a.state.macros i)) =
    subst (λ (z : State). (i : ℕ) → Sound (formals_of (macro_at z.macros i))) (sym q) k in
    let e = heart a.state.macros w a.body a.token.end a.state.left (outer_of a) a.state.room k' t.pass t.accepted in
    (e.0, subst (λ (z : State). (expansion_at a w).depth ≤ chain_from z.macros w) q e.1)

-- demand 3 of every hand-over
pub demand3 : (h : HandOver) (r : Rooms) → Demand3 h r
demand3 h r = demand3_of h r (λ s a w t m k. met_soft (context_of h r) s a w (sound_through h r s t) m k)
