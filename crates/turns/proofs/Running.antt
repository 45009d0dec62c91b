-- The run turn by turn, without fuel, and what turns make one after the other.
-- Assumes nothing.
use Prim.Native.Nat.{ℕ, zero, suc, max, ◌+◌, ◌-◌, ◌<◌, ◌≤◌}
use mathlib.Core.Bool.{true}
use mathlib.Core.List.{List, [], ◌∷◌, ◌++◌, append_assoc}
use mathlib.Core.Path.{◌≡◌, refl, sym, ap, ap₂, ◌∙◌}
use native.Mathlib.Omega.{arith}
use Rattle.writing.specs.Written.{Written}
use Rattle.handover.specs.Entries.{all_entries}
use Rattle.turns.specs.States.{Context, Frame, State, Made, nothing, Turn, more, stop, finished}
use Rattle.turns.specs.Turns.{turn_at}
use Rattle.turns.specs.Runs.{Run, ends, onto, follow, run_for, measure, run_from}
use Rattle.turns.proofs.Progress.{turn_falls}

pub measure_some : (x : Context) (gs : List Frame) → 1 ≤ measure x gs
unfolding measure
measure_some x [] = omega arith
measure_some x (f ∷ fs) = omega arith

-- one turn, and two ways on that agree behind it
follow_same : (s : State) (t : Turn) (f g : State → Run) → ((s' : State) (m : Made) → t ≡ more s' m → f s' ≡ g s')
    → follow s t f ≡ follow s t g
follow_same s (more s' m) f g h = ap (onto m) (h s' m refl)
follow_same s (stop n k p m) f g h = refl
follow_same s finished f g h = refl

module _ (x : Context) (ok : all_entries x.store x.table ≡ true) where
  -- any two fuels at or above the measure agree
  pub enough : (n k : ℕ) (s : State) → measure x s.frames ≤ n → measure x s.frames ≤ k → run_for n x s ≡ run_for k x s
  unfolding run_for
  enough zero k s h g = let l = measure_some x s.frames in absurd (omega arith)
  enough (suc n) zero s h g = let l = measure_some x s.frames in absurd (omega arith)
  enough (suc n) (suc k) s h g =
      follow_same s (turn_at x s) (λ s'. run_for n x s') (λ s'. run_for k x s')
      (λ s' m e. let l : measure x s'.frames < measure x s.frames = turn_falls x s s' m ok e in
      enough n k s' (omega arith) (omega arith))

-- its first turn
run_first : (x : Context) (s : State) → run_from x s ≡ follow s (turn_at x s) (λ s'. run_for (measure x s.frames - 1) x s')
unfolding run_from run_for
run_first x s =
    let l = measure_some x s.frames in
    let q : measure x s.frames ≡ suc (measure x s.frames - 1) = omega arith in
    ap (λ (n : ℕ). run_for n x s) q

pub run_more : (x : Context) (s s' : State) (m : Made) → all_entries x.store x.table ≡ true → turn_at x s ≡ more s' m
    → run_from x s ≡ onto m (run_from x s')
unfolding run_from
run_more x s s' m ok e =
    let l : measure x s'.frames < measure x s.frames = turn_falls x s s' m ok e in
    run_first x s ∙ ap (λ (t : Turn). follow s t (λ r. run_for (measure x s.frames - 1) x r)) e
    ∙ ap (onto m) (enough x ok (measure x s.frames - 1) (measure x s'.frames) s' (omega arith) (omega arith))

pub run_stop : (x : Context) (s : State) (n f p : ℕ) (m : Made) → turn_at x s ≡ stop n f p m → run_from x s ≡ onto m (ends s n f p)
run_stop x s n f p m e =
    run_first x s ∙ ap (λ (t : Turn). follow s t (λ r. run_for (measure x s.frames - 1) x r)) e

pub run_finished : (x : Context) (s : State) → turn_at x s ≡ finished → run_from x s ≡ ends s 0 0 0
run_finished x s e =
    run_first x s ∙ ap (λ (t : Turn). follow s t (λ r. run_for (measure x s.frames - 1) x r)) e

-- ---- what was made before a run

-- the run with another text, count and depth
abbrev summed : Run → List Written → ℕ → ℕ → Run
summed r t c d =
    record {
      text = t;
      count = c;
      depth = d;
      number = r.number;
      file = r.file;
      byte = r.byte;
      macros = r.macros;
      settings = r.settings;
    }

pub onto_nothing : (r : Run) → r ≡ onto nothing r
onto_nothing r =
    let c : r.count ≡ 0 + r.count = omega arith in
    let d : r.depth ≡ max 0 r.depth = omega arith in
    ap₂ (summed r r.text) c d

abbrev pub joined : Made → Made → Made
joined m k = record { text = m.text ++ k.text; count = m.count + k.count; depth = max m.depth k.depth }

pub onto_twice : (m k : Made) (r : Run) → onto m (onto k r) ≡ onto (joined m k) r
onto_twice m k r =
    let c : m.count + (k.count + r.count) ≡ (m.count + k.count) + r.count = omega arith in
    let d : max m.depth (max k.depth r.depth) ≡ max (max m.depth k.depth) r.depth = omega arith in
    ap₂ (summed r (m.text ++ (k.text ++ r.text))) c d
    ∙ ap (λ (t : List Written). summed r t ((m.count + k.count) + r.count) (max (max m.depth k.depth) r.depth))
    (sym (append_assoc m.text k.text r.text))
