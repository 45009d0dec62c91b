-- The steps of definitions, of directives that are kept, and of the two `__` words, by what the code knows.
-- Assumes nothing.
use Prim.Native.Nat.{ℕ, ◌<◌, ◌≤◌}
use mathlib.Core.Bool.{Bool, true, false}
use mathlib.Core.List.{List, []}
use mathlib.Core.Path.{◌≡◌, refl, sym, ap, ◌∙◌, subst, subst⁻¹}
use native.Mathlib.Nat.{max-zero}
use native.Mathlib.Omega.{arith}
use lib.ListN.{length}
use Rattle.std.specs.Prelude.{Result, Ok as well, Err as refused}
use Rattle.lex.specs.declared.Fault.{Fault}
use Rattle.lex.specs.declared.Token.{Token}
use Rattle.lex.specs.Faults.{fault}
use Rattle.lex.proofs.Progress.{Inside}
use Rattle.definition.specs.Definitions.{Macro, Definition, barred, bad, good, definition_at}
use Rattle.store.specs.Stores.{define, fits}
use Rattle.store.specs.Buffers.{Holds}
use Rattle.macros.specs.Defining.{answer_to, macros_after, Reads as DefinedBy}
use Rattle.macros.specs.declared.ReadIn.{ReadIn}
use Rattle.macros.specs.declared.ReadIn.TheVariants as read
use Rattle.macros.proofs.Kept.{fits_few}
use Rattle.settings.specs.declared.Settings.{Settings}
use Rattle.writing.specs.Written.{Written, placed}
use Rattle.writing.specs.Buffers.{room_of, Puts, WroteBy}
use Rattle.writing.specs.declared.Spot.{Spot}
use Rattle.writing.specs.declared.Wrote.{Wrote}
use Rattle.writing.specs.declared.Wrote.TheVariants as wrote
use Rattle.writing.proofs.Laws.{puts_none, puts_text, puts_map}
use Rattle.places.specs.Places.{place_of}
use Rattle.copying.specs.Cursors.{cursor_behind}
use Rattle.copying.specs.Copying.{Reads}
use Rattle.turns.specs.States.{Context, Turn, more, Here, writes, refuse_at, refuse, behind, go_to, place_here}
use Rattle.turns.specs.Acts.{Act, spells, define_act, hide_act, keep_act}
use Rattle.turns.specs.Performing.{perform}
use Rattle.turns.proofs.Definitions.{bad_inside, good_inside, definition_bars}
use Rattle.keeping.specs.Keeping.{Kept, KeepHere, Keeps, KeptBy}
use Rattle.keeping.proofs.Keeping.{put_number}
use Rattle.steps.specs.declared.stage.Stage.{Stage}
use Rattle.steps.specs.declared.stage.Step.{Step}
use Rattle.steps.specs.declared.stage.Step.TheVariants as step
use Rattle.steps.specs.Hiding.{hidden_by}
use Rattle.steps.specs.Standing.{bufs, here_of, ended_at, with_cursor, with_spot, Ok, Fixed, At, Moves, SteppedBy, Performed}
use Rattle.steps.proofs.Going.{open_first, with_macros, with_settings, moved_to, stops, token_here, reads_there, body_here, token_at_here, inside_there}

-- the cursor of a stage is one of the file
pub spot_reads : (s : List ℕ) (z y : Stage) (p : Spot) → Reads s 0 z.cursor → y ≡ with_spot z p → Reads s 0 y.cursor
spot_reads s z y p r e = subst⁻¹ (λ (k : Stage). Reads s 0 k.cursor) e r

module _ (limit : ℕ) (ms : List Macro) {x : Context} {fs : List ℕ} {es : List (List ℕ)} {set : ℕ} {tx mp bs : List ℕ} {rs fr cd : List (List ℕ)}
    {z : Stage} {s : List ℕ} {t : Token} (fixed : Fixed x fs es set (bufs tx mp bs rs fr cd)) (here : At fs es s t z)
    (ok : Ok fs es (bufs tx mp bs rs fr cd) z) where
  abbrev h : Here
  h = here_of x limit (bufs tx mp bs rs fr cd) ms z

  word_in : Inside s t.end t.end
  word_in = record { past = omega arith; within = (token_here here ok).within }

  -- ---- the next stage

  ok_at : (tx' mp' bs' : List ℕ) (rs' : List (List ℕ)) (e n : ℕ) (c : Settings) (y : Spot) → Inside s t.end e → n ≤ 256
      → y.written ≤ length tx' → y.lines ≤ length mp'
      → Ok fs es (bufs tx' mp' bs' rs' fr cd) (moved_to z (cursor_behind s e z.cursor) n c y)
  ok_at tx' mp' bs' rs' e n c y i l p q =
      record {
        few_files = ok.few_files;
        file_in = ok.file_in;
        copyable = record { reads = reads_there here ok e i; in_text = p; in_map = q };
        outer = ok.outer;
        frames_lent = ok.frames_lent;
        blocks_are = ok.blocks_are;
        few_macros = l;
      }

  moves_at : (tx' mp' bs' : List ℕ) (rs' : List (List ℕ)) (ms' : List Macro) (e n : ℕ) (c : Settings) (y : Spot) (ws : List Written) (u : Turn)
      → u ≡ more
      (record {
        frames = behind h e;
        conds = h.state.conds;
        macros = ms';
        settings = c;
        room = room_of (length tx) (length mp) y;
        left = h.state.left;
      })
      (writes ws)
      → Holds ms' bs' rs' n → Puts ws tx tx' mp mp' z.spot y
      → Moves limit (bufs tx mp bs rs fr cd) (bufs tx' mp' bs' rs' fr cd) z (moved_to z (cursor_behind s e z.cursor) n c y) u
  moves_at tx' mp' bs' rs' ms' e n c y ws u q g p =
      record {
        macros = ms';
        made = writes ws;
        turn_is = q ∙ rw (open_first fr z.depth z.file (cursor_behind s e z.cursor) here.open_file, body_here fixed here, puts_text p, puts_map p);
        holds = g;
        puts = p;
        count_is = omega arith;
        deepest_is = sym (max-zero z.deepest);
      }

  -- behind a directive, with nothing written
  goes_at : (bs' : List ℕ) (rs' : List (List ℕ)) (ms' : List Macro) (e n : ℕ) (u : Turn) → u ≡ go_to h (behind h e) h.state.conds ms'
      → Holds ms' bs' rs' n → n ≤ 256 → Inside s t.end e
      → SteppedBy (step.On (with_macros (with_cursor z (cursor_behind s e z.cursor)) n)) fs es limit (bufs tx mp bs rs fr cd) (bufs tx mp bs' rs' fr cd) ms z u
  goes_at bs' rs' ms' e n u q g l i = (
    moves_at tx mp bs' rs' ms' e n z.settings z.spot [] u q g (puts_none tx mp z.spot),
    ok_at tx mp bs' rs' e n z.settings z.spot i l ok.copyable.in_text ok.copyable.in_map,
  )

  -- ---- a refusal

  stops_at : (tx' mp' bs' : List ℕ) (rs' : List (List ℕ)) (n p : ℕ) (u : Turn) (r : Step) → r ≡ ended_at z n z.file p → 0 < n → u ≡ refuse_at h n p
      → tx' ≡ tx → mp' ≡ mp → Holds ms bs' rs' z.macros
      → SteppedBy r fs es limit (bufs tx mp bs rs fr cd) (bufs tx' mp' bs' rs' fr cd) ms z u
  stops_at tx' mp' bs' rs' n p u r e l q a b g =
      subst⁻¹ (λ (k : Step). SteppedBy k fs es limit (bufs tx mp bs rs fr cd) (bufs tx' mp' bs' rs' fr cd) ms z u) e
      (stops (bufs tx mp bs rs fr cd) (bufs tx' mp' bs' rs' fr cd) ms z n p u l q a b g)

  -- 7, 11, 12, 19, 20: at the token
  refused_here : (n : ℕ) → refuse h n ≡ refuse_at h n t.at
  refused_here n = ap (λ (k : Token). refuse_at h n k.at) (token_at_here fixed here)

  -- ---- a definition in taken text

  module _ (held : Holds ms bs rs z.macros) {bs' : List ℕ} {rs' : List (List ℕ)} {a : ReadIn} (reads : DefinedBy (definition_at s t.end) ms bs bs' rs rs' a) where
    abbrev d : Definition
    d = definition_at s t.end

    abbrev Defined : Step → Type 0
    Defined r = Performed r x fs es limit (bufs tx mp bs rs fr cd) (bufs tx mp bs' rs' fr cd) ms z (λ h. define_act h.token.at d)

    abbrev defined : Turn
    defined = perform h (define_act h.token.at d)

    rooms : (m : Macro) → fits x.records x.bytes (define m ms) ≡ fits (length rs) (length bs) (define m ms)
    rooms m = rw (fixed.records_are, fixed.bytes_are)

    -- the macros as they were
    same_macros : macros_after (length rs) (length bs) ms d ≡ ms → Holds ms bs' rs' z.macros
    same_macros e =
        let g : Holds ms bs' rs' (length ms) = rw e at reads.holds in
        subst⁻¹ (λ (n : ℕ). Holds ms bs' rs' n) held.count g

    pub define_done : {n e : ℕ} {y : Stage} → a ≡ read.Done n e → y ≡ with_cursor z (cursor_behind s e z.cursor) → Defined (step.On (with_macros y n))
    define_done {n} {e} {y} q w =
        subst⁻¹ (λ (k : Stage). Defined (step.On (with_macros k n))) w (go d refl (sym q ∙ reads.answer) reads.holds)
      where
        go : (v : Definition) → d ≡ v → read.Done n e ≡ answer_to (length rs) (length bs) ms v
            → Holds (macros_after (length rs) (length bs) ms v) bs' rs' (length (macros_after (length rs) (length bs) ms v))
            → Defined (step.On (with_macros (with_cursor z (cursor_behind s e z.cursor)) n))
        go (barred k p) i j g = let c : ◌≡◌ {A = ℕ} 0 1 = cc in absurd (omega arith)
        go (bad k) i j g = let c : ◌≡◌ {A = ℕ} 0 1 = cc in absurd (omega arith)
        go (good m k) i j g = by (fits (length rs) (length bs) (define m ms)) refl
          where
            by : (b : Bool) → fits (length rs) (length bs) (define m ms) ≡ b → Defined (step.On (with_macros (with_cursor z (cursor_behind s e z.cursor)) n))
            by true f =
                let j' : read.Done n e ≡ read.Done (length (define m ms)) k = rw f at j in
                let c : n ≡ length (define m ms) = cc in
                let o : e ≡ k = cc in
                let g' : Holds (define m ms) bs' rs' (length (define m ms)) = rw f at g in
                let i' : d ≡ good m e = i ∙ ap (good m) (sym o) in
                goes_at bs' rs' (define m ms) e n defined (rw (i', rooms m, f)) (subst⁻¹ (λ (l : ℕ). Holds (define m ms) bs' rs' l) c g')
                (omega (arith, fits_few (length rs) (length bs) (define m ms) f)) (good_inside s t.end (token_here here ok).within m e i')
            by false f =
                let j' : read.Done n e ≡ read.NoRoom = rw f at j in
                let c : ◌≡◌ {A = ℕ} 0 1 = cc in
                absurd (omega arith)

    pub define_barred : {n p : ℕ} {r : Step} → a ≡ read.Barred n p → r ≡ ended_at z n z.file p → Defined r
    define_barred {n} {p} {r} q w = go d refl (sym q ∙ reads.answer)
      where
        go : (v : Definition) → d ≡ v → read.Barred n p ≡ answer_to (length rs) (length bs) ms v → Defined r
        go (barred k l) i j =
            let c : n ≡ k = cc in
            let o : p ≡ l = cc in
            let i' : d ≡ barred n p = rw (c, o) i in
            stops_at tx mp bs' rs' n p defined r w (omega (arith, (definition_bars s t.end n p i').low)) (rw i') refl refl (same_macros (rw i))
        go (bad k) i j = let c : ◌≡◌ {A = ℕ} 0 1 = cc in absurd (omega arith)
        go (good m k) i j = by (fits (length rs) (length bs) (define m ms)) refl
          where
            by : (b : Bool) → fits (length rs) (length bs) (define m ms) ≡ b → Defined r
            by true f =
                let j' : read.Barred n p ≡ read.Done (length (define m ms)) k = rw f at j in
                let c : ◌≡◌ {A = ℕ} 0 1 = cc in
                absurd (omega arith)
            by false f =
                let j' : read.Barred n p ≡ read.NoRoom = rw f at j in
                let c : ◌≡◌ {A = ℕ} 0 1 = cc in
                absurd (omega arith)

    pub define_bad : {r : Step} → a ≡ read.Bad → r ≡ ended_at z 11 z.file t.at → Defined r
    define_bad {r} q w = go d refl (sym q ∙ reads.answer)
      where
        go : (v : Definition) → d ≡ v → read.Bad ≡ answer_to (length rs) (length bs) ms v → Defined r
        go (barred k l) i j = let c : ◌≡◌ {A = ℕ} 0 1 = cc in absurd (omega arith)
        go (bad k) i j =
            stops_at tx mp bs' rs' 11 t.at defined r w (omega arith) (rw i (refused_here 11)) refl refl (same_macros (rw i))
        go (good m k) i j = by (fits (length rs) (length bs) (define m ms)) refl
          where
            by : (b : Bool) → fits (length rs) (length bs) (define m ms) ≡ b → Defined r
            by true f =
                let j' : read.Bad ≡ read.Done (length (define m ms)) k = rw f at j in
                let c : ◌≡◌ {A = ℕ} 0 1 = cc in
                absurd (omega arith)
            by false f =
                let j' : read.Bad ≡ read.NoRoom = rw f at j in
                let c : ◌≡◌ {A = ℕ} 0 1 = cc in
                absurd (omega arith)

    pub define_full : {r : Step} → a ≡ read.NoRoom → r ≡ ended_at z 12 z.file t.at → Defined r
    define_full {r} q w = go d refl (sym q ∙ reads.answer)
      where
        go : (v : Definition) → d ≡ v → read.NoRoom ≡ answer_to (length rs) (length bs) ms v → Defined r
        go (barred k l) i j = let c : ◌≡◌ {A = ℕ} 0 1 = cc in absurd (omega arith)
        go (bad k) i j = let c : ◌≡◌ {A = ℕ} 0 1 = cc in absurd (omega arith)
        go (good m k) i j = by (fits (length rs) (length bs) (define m ms)) refl
          where
            by : (b : Bool) → fits (length rs) (length bs) (define m ms) ≡ b → Defined r
            by true f =
                let j' : read.NoRoom ≡ read.Done (length (define m ms)) k = rw f at j in
                let c : ◌≡◌ {A = ℕ} 0 1 = cc in
                absurd (omega arith)
            by false f =
                stops_at tx mp bs' rs' 12 t.at defined r w (omega arith) (rw (i, rooms m, f) (refused_here 12)) refl refl (same_macros (rw (i, f)))

  -- ---- a definition in ignored text

  module _ (held : Holds ms bs rs z.macros) {g : Result ℕ Fault} (right : g ≡ hidden_by (definition_at s t.end)) where
    abbrev Hides : Step → Type 0
    Hides r = Performed r x fs es limit (bufs tx mp bs rs fr cd) (bufs tx mp bs rs fr cd) ms z (λ h. hide_act (definition_at s t.end))

    abbrev hidden : Turn
    hidden = perform h (hide_act (definition_at s t.end))

    pub hide_barred : {f : Fault} {r : Step} → g ≡ refused f → r ≡ ended_at z f.number z.file f.place → Hides r
    hide_barred {f} {r} q w = go (definition_at s t.end) refl (sym q ∙ right)
      where
        go : (v : Definition) → definition_at s t.end ≡ v → refused f ≡ hidden_by v → Hides r
        go (barred k l) i e =
            let c : f ≡ fault k l = cc in
            let i' : definition_at s t.end ≡ barred f.number f.place = rw c i in
            stops_at tx mp bs rs f.number f.place hidden r w (omega (arith, (definition_bars s t.end f.number f.place i').low)) (rw i') refl refl held
        go (bad k) i e = let c : ◌≡◌ {A = ℕ} 0 1 = cc in absurd (omega arith)
        go (good m k) i e = let c : ◌≡◌ {A = ℕ} 0 1 = cc in absurd (omega arith)

    hidden_to : {e : ℕ} {y : Stage} → y ≡ with_cursor z (cursor_behind s e z.cursor) → Inside s t.end e
        → hidden ≡ go_to h (behind h e) h.state.conds ms → Hides (step.On y)
    hidden_to {e} {y} w i q =
        subst⁻¹ (λ (k : Stage). Hides (step.On k)) w (goes_at bs rs ms e z.macros hidden q held ok.few_macros i)

    pub hide_to : {e : ℕ} {y : Stage} → g ≡ well e → y ≡ with_cursor z (cursor_behind s e z.cursor) → Hides (step.On y)
    hide_to {e} {y} q w = go (definition_at s t.end) refl (sym q ∙ right)
      where
        go : (v : Definition) → definition_at s t.end ≡ v → well e ≡ hidden_by v → Hides (step.On y)
        go (barred k l) i f = let c : ◌≡◌ {A = ℕ} 0 1 = cc in absurd (omega arith)
        go (bad k) i f =
            let o : e ≡ k = cc in
            let i' : definition_at s t.end ≡ bad e = i ∙ ap bad (sym o) in
            hidden_to w (bad_inside s t.end (token_here here ok).within e i') (rw i')
        go (good m k) i f =
            let o : e ≡ k = cc in
            let i' : definition_at s t.end ≡ good m e = i ∙ ap (good m) (sym o) in
            hidden_to w (good_inside s t.end (token_here here ok).within m e i') (rw i')

  -- ---- what is written

  module _ (held : Holds ms bs rs z.macros) (tx' mp' : List ℕ) where
    abbrev WrittenBy : Step → Act → Type 0
    WrittenBy r a = Performed r x fs es limit (bufs tx mp bs rs fr cd) (bufs tx' mp' bs rs fr cd) ms z (λ h. a)

    written_to : (e : ℕ) (c : Settings) (y : Spot) (ws : List Written) (a : Act)
        → perform h a ≡ more
        (record {
          frames = behind h e;
          conds = h.state.conds;
          macros = ms;
          settings = c;
          room = room_of (length tx) (length mp) y;
          left = h.state.left;
        })
        (writes ws)
        → Puts ws tx tx' mp mp' z.spot y → y.written ≤ length tx → y.lines ≤ length mp → Inside s t.end e
        → WrittenBy (step.On (moved_to z (cursor_behind s e z.cursor) z.macros c y)) a
    written_to e c y ws a q p k l i = (
      moves_at tx' mp' bs rs ms e z.macros c y ws (perform h a) q held p,
      ok_at tx' mp' bs rs e z.macros c y i ok.few_macros (omega (arith, puts_text p)) (omega (arith, puts_map p)),
    )

    module _ {place : ℕ} (place_is : place ≡ place_of z.file z.cursor.line) where
      -- one of the two `__` words
      module _ (w : List ℕ) {r : Wrote} (b : WroteBy r (placed 0 place w) tx tx' mp mp' z.spot) where
        word_by : (q : Wrote) → r ≡ q → WroteBy q (placed 0 (place_here h) w) tx tx' mp mp' z.spot
        word_by q e =
            let c : WroteBy q (placed 0 place w) tx tx' mp mp' z.spot = subst (λ (k : Wrote). WroteBy k (placed 0 place w) tx tx' mp mp' z.spot) e b in
            subst (λ (k : ℕ). WroteBy q (placed 0 k w) tx tx' mp mp' z.spot) place_is c

        pub word_full : {k : ℕ} {v : Step} → r ≡ wrote.Full k → v ≡ ended_at z k z.file t.at → WrittenBy v (spells w)
        word_full {k} {v} q e =
            let c = word_by (wrote.Full k) q in
            stops_at tx' mp' bs rs k t.at (perform h (spells w)) v e (put_number h.state.room (placed 0 (place_here h) w) k c.0) (rw c.0 (refused_here k))
            c.1 c.2 held

        pub word_upto : {y : Spot} {z₁ v : Stage} → r ≡ wrote.Upto y → z₁ ≡ with_spot z y → v ≡ with_cursor z₁ (cursor_behind s t.end z₁.cursor)
            → WrittenBy (step.On v) (spells w)
        word_upto {y} {z₁} {v} q f e =
            let c = word_by (wrote.Upto y) q in
            let e' : v ≡ with_cursor (with_spot z y) (cursor_behind s t.end z.cursor) = e ∙ ap (λ (k : Stage). with_cursor k (cursor_behind s t.end k.cursor)) f in
            subst⁻¹ (λ (k : Stage). WrittenBy (step.On k) (spells w)) e'
            (written_to t.end z.settings y (placed 0 (place_here h) w) (spells w) (rw (c.1, token_at_here fixed here)) c.0 c.2 c.3 word_in)

      kept_here : KeepHere h s t set place z.settings tx mp z.spot
      kept_here = record {
        set_is = fixed.set_is;
        body_is = body_here fixed here;
        token_is = token_at_here fixed here;
        place_is = sym place_is;
        settings_are = refl;
        room_is = refl;
      }

      -- a directive that is kept
      module _ (n : ℕ) {r : Kept} (b : (g : Here) → KeepHere g s t set place z.settings tx mp z.spot → KeptBy r g (keep_act n g) tx tx' mp mp' z.spot) where
        kept_by : (q : Kept) → r ≡ q → KeptBy q h (keep_act n h) tx tx' mp mp' z.spot
        kept_by q e = subst (λ (k : Kept). KeptBy k h (keep_act n h) tx tx' mp mp' z.spot) e (b h kept_here)

        pub keep_refused : {f : Fault} {v : Step} → r ≡ refused f → v ≡ ended_at z f.number z.file f.place → WrittenBy v (keep_act n h)
        keep_refused {f} {v} q e =
            let c = kept_by (refused f) q in
            stops_at tx' mp' bs rs f.number f.place (perform h (keep_act n h)) v e c.1 c.0 c.2 c.3 held

        pub keep_to : {c : Settings} {y : Spot} {e : ℕ} {z₁ v : Stage} → r ≡ well (c, y, e) → z₁ ≡ with_spot z y
            → v ≡ with_cursor z₁ (cursor_behind s e z₁.cursor) → WrittenBy (step.On (with_settings v c)) (keep_act n h)
        keep_to {c} {y} {e} {z₁} {v} q f g =
            let k : Keeps h (keep_act n h) tx tx' mp mp' c z.spot y e = kept_by (well (c, y, e)) q in
            let g' : v ≡ with_cursor (with_spot z y) (cursor_behind s e z.cursor) = g ∙ ap (λ (j : Stage). with_cursor j (cursor_behind s e j.cursor)) f in
            subst⁻¹ (λ (j : Stage). WrittenBy (step.On (with_settings j c)) (keep_act n h)) g'
            (written_to e c y k.written (keep_act n h) k.turn_is k.puts k.in_text k.in_map (inside_there fixed here limit ms e ok k.ends))
