-- The step of a usage, by what the code knows.
-- Assumes nothing.
use Prim.Native.Nat.{ℕ, zero, suc, ◌+◌, ◌-◌, ◌<◌, ◌≤◌}
use mathlib.Core.List.{List}
use mathlib.Core.Path.{◌≡◌, refl, sym, ap, ◌∙◌, subst, subst⁻¹}
use native.Mathlib.Omega.{arith}
use lib.ListN.{length}
use borrow.Author.Tests.{eq-eqb, ne_eqb, lt-ltb, le-ltb}
use Rattle.text.specs.Bytes.{part}
use Rattle.lex.specs.Tokens.{name_of}
use Rattle.lex.specs.declared.Token.{Token}
use Rattle.lex.proofs.Progress.{Inside}
use Rattle.definition.specs.Definitions.{Macro}
use Rattle.store.specs.Buffers.{Holds}
use Rattle.writing.specs.Written.{map_of}
use Rattle.writing.specs.Buffers.{spot_after, Puts}
use Rattle.writing.proofs.Laws.{puts_text, puts_map}
use Rattle.places.specs.Places.{place_of, quoted, decimal}
use Rattle.handover.specs.Entries.{name_of as entryNamed}
use Rattle.copying.specs.Cursors.{cursor_behind}
use Rattle.copying.specs.Copying.{Reads}
use Rattle.expand.specs.declared.Expanded.{Expanded}
use Rattle.expand.specs.declared.Stand.{Stand}
use Rattle.expand.specs.Expanding.{Outer, Expansion, first, goes_on, expand}
use Rattle.expand.specs.Standing.{outer, answer_of, Ends, Expands}
use Rattle.turns.specs.States.{Context, Turn, more, stop, Here, behind, room_after}
use Rattle.turns.specs.Usages.{outer_of, made_by, after_usage, usage_turn}
use Rattle.turns.proofs.Rooms.{Fits, expand_fits}
use Rattle.turns.proofs.Asking.{usage_ends}
use Rattle.steps.specs.declared.stage.Stage.{Stage}
use Rattle.steps.specs.declared.stage.Step.{Step}
use Rattle.steps.specs.declared.stage.Step.TheVariants as step
use Rattle.steps.specs.Standing.{bufs, here_of, ended_at, with_cursor, expanded_to, Ok, Fixed, At, Moves, Stops, SteppedBy}
use Rattle.steps.proofs.Going.{open_first, reads_there, body_here, token_at_here, inside_there}

pub expanded_reads : (s : List ℕ) (z y : Stage) (r : Expanded) → Reads s 0 z.cursor → y ≡ expanded_to z r → Reads s 0 y.cursor
expanded_reads s z y r k e = subst⁻¹ (λ (j : Stage). Reads s 0 j.cursor) e k

-- ---- a usage

after_on : (h : Here) (n : ℕ) (e : Expansion) → e.stop ≡ 0
    → after_usage h n e ≡ more
    (record {
      frames = behind h n;
      conds = h.state.conds;
      macros = h.state.macros;
      settings = h.state.settings;
      room = room_after h.state.room e.text;
      left = h.state.left - e.count;
    })
    (made_by e)
after_on h n e q = rw (eq-eqb e.stop 0 q)

after_low : (h : Here) (n : ℕ) (e : Expansion) → (e.stop ≡ 0 → ⊥) → e.stop < 7 → after_usage h n e ≡ stop e.stop h.frame.file e.place (made_by e)
after_low h n e a l = rw (ne_eqb e.stop 0 a, lt-ltb e.stop 7 l)

after_high : (h : Here) (n : ℕ) (e : Expansion) → (e.stop ≡ 0 → ⊥) → 7 ≤ e.stop → after_usage h n e ≡ stop e.stop h.frame.file h.token.at (made_by e)
after_high h n e a l = rw (ne_eqb e.stop 0 a, le-ltb e.stop 7 l)

sub_sub : (a b c : ℕ) → (a - b) - c ≡ a - (b + c)
sub_sub a b c = omega arith

abbrev stand_of : Stage → Stand
stand_of z = record { depth = 0; count = z.count; deepest = z.deepest; spot = z.spot }

module _ (limit : ℕ) (ms : List Macro) {x : Context} {fs : List ℕ} {es : List (List ℕ)} {set : ℕ} {tx mp bs : List ℕ} {rs fr cd : List (List ℕ)}
    {z : Stage} {s : List ℕ} {t : Token} (fixed : Fixed x fs es set (bufs tx mp bs rs fr cd)) (here : At fs es s t z)
    (ok : Ok fs es (bufs tx mp bs rs fr cd) z) (held : Holds ms bs rs z.macros) (tx' mp' : List ℕ) where
  abbrev h : Here
  h = here_of x limit (bufs tx mp bs rs fr cd) ms z

  -- the stage behind an expansion, at n
  abbrev there : Expansion → ℕ → Stage
  there e n = with_cursor (expanded_to z (answer_of n (stand_of z) e)) (cursor_behind s n z.cursor)

  abbrev StepsBy : Step → Turn → Type 0
  StepsBy r u = SteppedBy r fs es limit (bufs tx mp bs rs fr cd) (bufs tx' mp' bs rs fr cd) ms z u

  abbrev PutsBy : Expansion → Type 0
  PutsBy e = Puts e.text tx tx' mp mp' z.spot (spot_after z.spot e.text)

  moved : (e : Expansion) (n : ℕ) (u : Turn) → u ≡ after_usage h n e → e.stop ≡ 0 → PutsBy e
      → Moves limit (bufs tx mp bs rs fr cd) (bufs tx' mp' bs rs fr cd) z (there e n) u
  moved e n u q a p =
      record {
        macros = ms;
        made = made_by e;
        turn_is = q ∙ after_on h n e a
            ∙ rw (
              open_first fr z.depth z.file (cursor_behind s n z.cursor) here.open_file,
              body_here fixed here,
              puts_text p,
              puts_map p,
              sub_sub (length tx) z.spot.written (length e.text),
              sub_sub (length mp) z.spot.lines (length (map_of z.spot.fresh e.text)),
              sub_sub limit z.count e.count,
            );
        holds = held;
        puts = p;
        count_is = refl;
        deepest_is = refl;
      }

  ok_there : (e : Expansion) (n : ℕ) → PutsBy e → Fits h.state.room e.text → Inside s t.end n
      → Ok fs es (bufs tx' mp' bs rs fr cd) (there e n)
  ok_there e n p f i =
      let a : length tx' ≡ length tx = puts_text p in
      let b : length mp' ≡ length mp = puts_map p in
      let c : length e.text ≤ length tx - z.spot.written = f.in_text in
      let d : length (map_of z.spot.fresh e.text) ≤ length mp - z.spot.lines = f.in_map in
      let k : z.spot.written ≤ length tx = ok.copyable.in_text in
      let l : z.spot.lines ≤ length mp = ok.copyable.in_map in
      let m : z.spot.written + length e.text ≤ length tx' = omega (arith, a, c, k) in
      let o : z.spot.lines + length (map_of z.spot.fresh e.text) ≤ length mp' = omega (arith, b, d, l) in
      record {
        few_files = ok.few_files;
        file_in = ok.file_in;
        copyable = record { reads = reads_there here ok n i; in_text = m; in_map = o };
        outer = ok.outer;
        frames_lent = ok.frames_lent;
        blocks_are = ok.blocks_are;
        few_macros = ok.few_macros;
      }

  stopped : (e : Expansion) (n m p : ℕ) (u : Turn) → (m ≡ 0 → ⊥) → u ≡ stop m z.file p (made_by e) → PutsBy e
      → Stops (bufs tx mp bs rs fr cd) (bufs tx' mp' bs rs fr cd) ms z (expanded_to z (answer_of n (stand_of z) e)) m z.file p u
  stopped e n zero p u a q b = absurd (a refl)
  stopped e n (suc m) p u a q b =
      record { made = made_by e; turn_is = q; holds = held; settings_same = refl; puts = b; count_is = refl; deepest_is = refl }

  module _ {file line w : List ℕ} {place : ℕ} {r : Expanded} (file_is : file ≡ quoted (entryNamed fs es z.file)) (line_is : line ≡ decimal 6 z.cursor.line)
      (place_is : place ≡ place_of z.file z.cursor.line) (word_is : w ≡ part s t.from t.end)
      (b : (ks : List Macro) → Holds ks bs rs z.macros → Expands (outer file line place) ks limit w s t.end tx tx' mp mp' (stand_of z) r) where
    abbrev exp : Outer → List ℕ → List ℕ → ℕ → Expansion
    exp o v y i = expand (limit - z.count) o ms h.state.room v y i

    abbrev e : Expansion
    e = exp (outer_of h) (name_of h.body h.token) h.body h.token.end

    abbrev n : ℕ
    n = goes_on h.body (first ms (name_of h.body h.token) h.body h.token.end)

    outer_is : outer file line place ≡ outer_of h
    outer_is = rw (file_is, line_is, place_is, fixed.store_is, fixed.table_is)

    abbrev EndsBy : ℕ → Expansion → Type 0
    EndsBy k v = Ends k tx tx' mp mp' (stand_of z) v r

    ends : EndsBy n e
    ends =
        subst (λ (y : Token). EndsBy (goes_on h.body (first ms (name_of h.body y) h.body y.end)) (exp (outer_of h) (name_of h.body y) h.body y.end))
        (sym (token_at_here fixed here))
        (subst (λ (v : List ℕ). EndsBy (goes_on v (first ms (name_of v t) v t.end)) (exp (outer_of h) (name_of v t) v t.end)) (sym (body_here fixed here))
        (subst (λ (o : Outer). EndsBy (goes_on s (first ms (name_of s t) s t.end)) (exp o (name_of s t) s t.end)) outer_is
        (subst (λ (v : List ℕ). EndsBy (goes_on s (first ms v s t.end)) (exp (outer file line place) v s t.end)) word_is (b ms held))))

    puts : PutsBy e
    puts = record { spot = refl; bytes = ends.text_is; lines = ends.map_is }

    number_is : r.number ≡ e.stop
    number_is = ap (λ (k : Expanded). k.number) ends.answer

    inside : e.stop ≡ 0 → Inside s t.end n
    inside q = inside_there fixed here limit ms n ok (λ l. usage_ends h l (eq-eqb e.stop 0 q))

    pub usage_on : {y v : Stage} → y ≡ expanded_to z r → r.number ≡ 0 → v ≡ with_cursor y (cursor_behind s r.next y.cursor)
        → StepsBy (step.On v) (usage_turn h)
    usage_on {y} {v} f q g =
        let a : e.stop ≡ 0 = sym number_is ∙ q in
        let k : v ≡ there e n =
        g ∙ ap (λ (j : Stage). with_cursor j (cursor_behind s r.next j.cursor)) f
        ∙ ap (λ (j : Expanded). with_cursor (expanded_to z j) (cursor_behind s j.next z.cursor)) ends.answer
        in
        subst⁻¹ (λ (j : Stage). StepsBy (step.On j) (usage_turn h)) k (
          moved e n (usage_turn h) refl a puts,
          ok_there e n puts
              (expand_fits (limit - z.count) (outer_of h) ms h.state.room (name_of h.body h.token) h.body h.token.end) (inside a),
        )

    -- 2 to 6, at their token
    pub usage_low : {y : Stage} {v : Step} → y ≡ expanded_to z r → (r.number ≡ 0 → ⊥) → r.number < 7 → v ≡ ended_at y r.number y.file r.place
        → StepsBy v (usage_turn h)
    usage_low {y} {v} f q l g =
        let a : e.stop ≡ 0 → ⊥ = λ k. q (number_is ∙ k) in
        let m : e.stop < 7 = subst (λ (j : ℕ). j < 7) number_is l in
        let k : v ≡ ended_at (expanded_to z (answer_of n (stand_of z) e)) e.stop z.file e.place =
        g ∙ ap (λ (j : Stage). ended_at j r.number j.file r.place) f
        ∙ ap (λ (j : Expanded). ended_at (expanded_to z j) j.number z.file j.place) ends.answer
        in
        subst⁻¹ (λ (j : Step). StepsBy j (usage_turn h)) k (stopped e n e.stop e.place (usage_turn h) a (after_low h n e a m) puts)

    -- 13 to 20, at the usage
    pub usage_high : {y : Stage} {v : Step} → y ≡ expanded_to z r → (r.number ≡ 0 → ⊥) → 7 ≤ r.number → v ≡ ended_at y r.number y.file t.at
        → StepsBy v (usage_turn h)
    usage_high {y} {v} f q l g =
        let a : e.stop ≡ 0 → ⊥ = λ k. q (number_is ∙ k) in
        let m : 7 ≤ e.stop = subst (λ (j : ℕ). 7 ≤ j) number_is l in
        let k : v ≡ ended_at (expanded_to z (answer_of n (stand_of z) e)) e.stop z.file t.at =
        g ∙ ap (λ (j : Stage). ended_at j r.number j.file t.at) f
        ∙ ap (λ (j : Expanded). ended_at (expanded_to z j) j.number z.file t.at) ends.answer
        in
        let o : usage_turn h ≡ stop e.stop z.file t.at (made_by e) =
        after_high h n e a m ∙ ap (λ (j : Token). stop e.stop z.file j.at (made_by e)) (token_at_here fixed here)
        in
        subst⁻¹ (λ (j : Step). StepsBy j (usage_turn h)) k (stopped e n e.stop t.at (usage_turn h) a o puts)
