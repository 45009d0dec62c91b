-- Laws of several turns, one after the other: what leads on, what the run from there is, and that the measure does not rise.
-- Assumes nothing.
use Prim.Native.Nat.{◌<◌, ◌≤◌}
use mathlib.Core.Bool.{true}
use mathlib.Core.List.{List, ◌++◌, append_assoc}
use mathlib.Core.Path.{◌≡◌, ap, ◌∙◌}
use native.Mathlib.Omega.{arith}
use Rattle.writing.specs.Written.{Written}
use Rattle.handover.specs.Entries.{all_entries}
use Rattle.turns.specs.States.{Context, State, writes}
use Rattle.turns.specs.Leading.{Leads, here, then}
use Rattle.turns.specs.Runs.{onto, measure, run_from}
use Rattle.turns.proofs.Progress.{turn_falls}
use Rattle.turns.proofs.Running.{run_more, onto_nothing, onto_twice}

pub leads_append : {x : Context} {s s₁ s₂ : State} {ws ws' : List Written} → Leads x s ws s₁ → Leads x s₁ ws' s₂ → Leads x s (ws ++ ws') s₂
leads_append here k = k
leads_append (then e h) k = rw append_assoc (then e (leads_append h k))

pub leads_run : (x : Context) {S S' : State} {ws : List Written} → all_entries x.store x.table ≡ true → Leads x S ws S'
    → run_from x S ≡ onto (writes ws) (run_from x S')
leads_run x {S} ok here = onto_nothing (run_from x S)
leads_run x ok (then {s} {s₁} {s'} {ws} {ws'} e l) =
    run_more x s s₁ (writes ws) ok e ∙ ap (onto (writes ws)) (leads_run x ok l) ∙ onto_twice (writes ws) (writes ws') (run_from x s')

pub leads_falls : (x : Context) {S S' : State} {ws : List Written} → all_entries x.store x.table ≡ true → Leads x S ws S'
    → measure x S'.frames ≤ measure x S.frames
leads_falls x ok here = omega arith
leads_falls x ok (then {s} {s₁} {s'} {ws} {ws'} e l) =
    let a : measure x s₁.frames < measure x s.frames = turn_falls x s s₁ (writes ws) ok e in
    let b : measure x s'.frames ≤ measure x s₁.frames = leads_falls x ok l in omega (arith, a, b)
