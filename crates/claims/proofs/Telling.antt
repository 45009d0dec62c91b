-- A run told turn by turn: its files are taken without gap, its text is what was written, and if it is not refused every file was
-- taken whole.
-- Assumes nothing.
use Prim.Native.Nat.{ℕ, zero, suc, ◌<◌, ◌≤◌}
use mathlib.Core.Bool.{Bool, true, false}
use mathlib.Core.List.{List, ◌∷◌, ◌++◌, append-nil, append_assoc}
use mathlib.Core.Path.{◌≡◌, refl, sym, ap, subst, ◌∙◌}
use native.Mathlib.Omega.{arith}
use lib.Dec.{leb}
use lib.ListN.{length}
use borrow.Author.Tests.{leb-true, leb-false}
use Rattle.writing.specs.Written.{text_of}
use Rattle.writing.proofs.Laws.{text_append}
use Rattle.handover.specs.Entries.{all_entries}
use Rattle.turns.specs.States.{Context, Frame, State, Made, Turn, more, stop, finished}
use Rattle.turns.specs.Turns.{turn_at}
use Rattle.turns.specs.Through.{Through}
use Rattle.turns.specs.Through as through
use Rattle.turns.specs.Runs.{Run, follow, run_for, measure, run_from}
use Rattle.turns.proofs.Progress.{turn_falls}
use Rattle.turns.proofs.Running.{measure_some, run_more}
use Rattle.turns.specs.Files.{file_of}
use Rattle.claims.specs.Stretches.{OpenFile, Acted, Behind, on, into, Stretch, Told, start, stretch, leaving, Stretches, none, then}
use Rattle.claims.specs.NothingDropped.{AllTaken, Within, Whole, AllWhole, Ends, at_end, refused}
use Rattle.claims.proofs.Stretches.{Step, takes, departs, Does, turn_does}

module _ (x : Context) (s₀ : State) where
  -- ---- a turn more

  told_step : {s s' : State} {u w : List ℕ} → Told x s₀ s u → Step x s s' w → Told x s₀ s' (u ++ w)
  told_step t (takes k) = stretch t k
  told_step t (departs k) = leaving t k

  -- the states told are those that the run goes through
  pub told_through : {s : State} {u : List ℕ} → Told x s₀ s u → Through x s₀ s
  told_through start = through.start
  told_through (stretch t k) = through.next (told_through t) k.acted.goes
  told_through (leaving t k) = through.next (told_through t) k.acted.goes

  -- ---- each open file is taken

  -- the file that a turn reads, among those open
  taken_here : {i : OpenFile} {s s' : State} {w : List ℕ} (k : Acted x i s s' w) → AllTaken x s₀ s.frames
      → Stretches x s₀ i k.frame.cursor.at × AllTaken x s₀ i.around
  unfolding AllTaken
  taken_here {i} {s} k h =
      let g : AllTaken x s₀ (k.frame ∷ i.around) = subst (AllTaken x s₀) k.frames_are h in
      (subst (λ (e : ℕ). Stretches x s₀ (record { entry = e; around = i.around }) k.frame.cursor.at) k.file_is g.0, g.1)

  behind_taken : {i : OpenFile} {b : ℕ} {gs : List Frame} → Behind i b gs → Stretches x s₀ i b → AllTaken x s₀ i.around → AllTaken x s₀ gs
  unfolding AllTaken
  behind_taken {i} (on c e) h g = (subst (Stretches x s₀ i) (sym e) h, g)
  behind_taken {i} (into j c e) h g = (none, (subst (Stretches x s₀ i) (sym e) h, g))

  pub all_taken : AllTaken x s₀ s₀.frames → {s : State} {u : List ℕ} → Told x s₀ s u → AllTaken x s₀ s.frames
  all_taken r start = r
  all_taken r (stretch {i} t k) =
      let h = taken_here k.acted (all_taken r t) in
      behind_taken k.behind (then (subst (Stretches x s₀ i) k.from h.0) t k) h.1
  all_taken r (leaving t k) = subst (AllTaken x s₀) (sym k.behind) (taken_here k.acted (all_taken r t)).1

  stretches_in : {i : OpenFile} {e : ℕ} → Stretches x s₀ i e → e ≤ length (file_of x i.entry)
  stretches_in none = omega arith
  stretches_in (then h t k) = k.inside

  cursor_in : (s : State) → AllTaken x s₀ s.frames → (f : Frame) (fs : List Frame) → s.frames ≡ f ∷ fs → f.cursor.at ≤ length (file_of x f.file)
  unfolding AllTaken
  cursor_in s h f fs q = let g : AllTaken x s₀ (f ∷ fs) = subst (AllTaken x s₀) q h in stretches_in g.0

  -- ---- each byte

  -- in the last stretch, or before it
  byte_by : {i : OpenFile} {a b : ℕ} {s s' : State} {u w : List ℕ} (p : ℕ) (c : Bool) → leb a p ≡ c → Told x s₀ s u → Stretch x i a b s s' w → p < b
      → (p < a → Within x s₀ i p) → Within x s₀ i p
  byte_by {a = a} {b = b} {s = s} {s' = s'} {u = u} {w = w} p true q t k h g =
      record { from = a; to = b; state = s; next = s'; before = u; written = w; told = t; stretch = k; low = leb-true a p q; high = h }
  byte_by {a = a} p false q t k h g = g (leb-false a p q)

  pub byte_within : {i : OpenFile} {e : ℕ} (p : ℕ) → Stretches x s₀ i e → p < e → Within x s₀ i p
  byte_within p none h = absurd (omega arith)
  byte_within p (then {a} l t k) h = byte_by p (leb a p) refl t k h (λ z. byte_within p l z)

  -- ---- the run

  module _ (first : AllTaken x s₀ s₀.frames) (ok : all_entries x.store x.table ≡ true) where
    does : {s : State} {u : List ℕ} → Told x s₀ s u → (t : Turn) → turn_at x s ≡ t → Does x s t
    does {s} told t e = subst (Does x s) e (turn_does x s (cursor_in s (all_taken first told)))

    step : {s : State} {u : List ℕ} → Told x s₀ s u → (s' : State) (m : Made) → turn_at x s ≡ more s' m → Step x s s' (text_of m.text)
    unfolding Does
    step told s' m e = does told (more s' m) e e

    falls : (s s' : State) (m : Made) (n : ℕ) → turn_at x s ≡ more s' m → measure x s.frames ≤ suc n → measure x s'.frames ≤ n
    falls s s' m n e l = omega (arith, turn_falls x s s' m ok e)

    -- behind u
    abbrev pub RunEnds : Run → List ℕ → Type 0
    RunEnds r u = Ends x s₀ r.number r.file r.byte (u ++ text_of r.text)

    -- go: the run behind the turn
    ends_after : {s : State} {u : List ℕ} → Told x s₀ s u → (t : Turn) → turn_at x s ≡ t → (go : State → Run)
        → ((s' : State) (m : Made) (v : List ℕ) → turn_at x s ≡ more s' m → Told x s₀ s' v → RunEnds (go s') v)
        → RunEnds (follow s t go) u
    unfolding Does text_of
    ends_after {u = u} told (more s' m) e go h =
        let r = go s' in
        subst (Ends x s₀ r.number r.file r.byte)
        (append_assoc u (text_of m.text) (text_of r.text) ∙ ap (λ (w : List ℕ). u ++ w) (sym (text_append m.text r.text)))
        (h s' m (u ++ text_of m.text) e (told_step told (step told s' m e)))
    ends_after told (stop k f p m) e go h =
        rw (append-nil m.text)
        (refused told (record { made = m; turn_is = e; made_is = refl; wrote = does told (stop k f p m) e }))
    ends_after {u = u} told finished e go h = let d = does told finished e in rw (append-nil u) (at_end told d.0 d.1)

    pub ends_by : (n : ℕ) (s : State) (u : List ℕ) → measure x s.frames ≤ n → Told x s₀ s u
        → RunEnds (run_for n x s) u
    unfolding run_for
    ends_by zero s u l told = let k = measure_some x s.frames in absurd (omega arith)
    ends_by (suc n) s u l told =
        ends_after told (turn_at x s) refl (λ s'. run_for n x s') (λ s' m v e t. ends_by n s' v (falls s s' m n e l) t)

    acted_rest : {i : OpenFile} {s s' : State} {w : List ℕ} (u : List ℕ) → Acted x i s s' w
        → u ++ text_of (run_from x s).text ≡ (u ++ w) ++ text_of (run_from x s').text
    acted_rest {s = s} {s' = s'} {w = w} u k =
        let r = run_from x s' in
        ap (λ (y : Run). u ++ text_of y.text) (run_more x s s' k.made ok k.goes) ∙ ap (λ (y : List ℕ). u ++ y) (text_append k.made.text r.text)
        ∙ ap (λ (y : List ℕ). u ++ (y ++ text_of r.text)) k.made_is ∙ sym (append_assoc u w (text_of r.text))

    -- what was written, and then the rest
    pub rest_of : {s : State} {u : List ℕ} → Told x s₀ s u → text_of (run_from x s₀).text ≡ u ++ text_of (run_from x s).text
    rest_of start = refl
    rest_of (stretch {u = u} t k) = rest_of t ∙ acted_rest u k.acted
    rest_of (leaving {u = u} t k) = rest_of t ∙ acted_rest u k.acted

    -- ---- files taken whole

    whole_here : {i : OpenFile} {s s' : State} {w : List ℕ} (k : Acted x i s s' w) → Whole x s₀ i → AllWhole x s₀ i.around → AllWhole x s₀ s.frames
    unfolding AllWhole
    whole_here {i} k h g =
        subst (AllWhole x s₀) (sym k.frames_are)
        (subst (λ (e : ℕ). Whole x s₀ (record { entry = e; around = i.around })) (sym k.file_is) h, g)

    behind_whole : {i : OpenFile} {b : ℕ} {gs : List Frame} → Behind i b gs → AllWhole x s₀ gs → Whole x s₀ i × AllWhole x s₀ i.around
    unfolding AllWhole
    behind_whole (on c e) h = h
    behind_whole (into j c e) h = h.1

    step_whole : {s s' : State} {u w : List ℕ} → Told x s₀ s u → Step x s s' w → AllWhole x s₀ s'.frames → AllWhole x s₀ s.frames
    step_whole told (takes k) h = let g = behind_whole k.behind h in whole_here k.acted g.0 g.1
    step_whole {s = s} {s' = s'} {u = u} {w = w} told (departs {i} k) h =
        let c = taken_here k.acted (all_taken first told) in
        whole_here k.acted
        (record {
          stretches = subst (Stretches x s₀ i) k.at_end c.0;
          state = s;
          next = s';
          before = u;
          written = w;
          told = told;
          leaving = k;
        })
        (subst (AllWhole x s₀) k.behind h)

    -- no refusal has the number 0
    module _ (numbered : (s : State) (u : List ℕ) → Told x s₀ s u → (n f p : ℕ) (m : Made) → turn_at x s ≡ stop n f p m → 0 < n) where
      whole_after : {s : State} {u : List ℕ} → Told x s₀ s u → (t : Turn) → turn_at x s ≡ t → (go : State → Run)
          → ((s' : State) (m : Made) (v : List ℕ) → turn_at x s ≡ more s' m → Told x s₀ s' v → (go s').number ≡ 0 → AllWhole x s₀ s'.frames)
          → (follow s t go).number ≡ 0 → AllWhole x s₀ s.frames
      unfolding Does AllWhole
      whole_after {u = u} told (more s' m) e go h z =
          let k = step told s' m e in
          step_whole told k (h s' m (u ++ text_of m.text) e (told_step told k) z)
      whole_after {s = s} {u = u} told (stop k f p m) e go h z = absurd (omega (arith, numbered s u told k f p m e))
      whole_after told finished e go h z = subst (AllWhole x s₀) (sym (does told finished e).0) tt

      pub all_whole : (n : ℕ) (s : State) (u : List ℕ) → measure x s.frames ≤ n → Told x s₀ s u → (run_for n x s).number ≡ 0 → AllWhole x s₀ s.frames
      unfolding run_for
      all_whole zero s u l told z = let k = measure_some x s.frames in absurd (omega arith)
      all_whole (suc n) s u l told z =
          whole_after told (turn_at x s) refl (λ s'. run_for n x s') (λ s' m v e t y. all_whole n s' v (falls s s' m n e l) t y) z
