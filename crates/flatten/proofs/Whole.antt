-- A run from its start: the first stage can go on, and what its end leaves is the outcome of the hand-over.
-- Assumes nothing.
use Prim.Native.Nat.{ℕ, max, ◌+◌, ◌≤◌}
use mathlib.Core.Bool.{true, false, cond}
use mathlib.Core.List.{List, [], ◌++◌}
use mathlib.Core.Path.{◌≡◌, refl, sym, ap, subst, ◌∙◌}
use native.Mathlib.Nat.{sub-zero, zero-add}
use native.Mathlib.Omega.{arith}
use borrow.Author.Tests.{eq-eqb, ne_eqb}
use lib.Dec.{eqb}
use lib.ListN.{length, drop, get_or, replicate, length-replicate, get_or-eq_default}
use lib.Seq.{sets, sets-eq, take-nil}
use Rattle.lex.proofs.Tests.{true_false}
use Rattle.definition.specs.Definitions.{Macro}
use Rattle.store.specs.Stores.{encode}
use Rattle.store.specs.Buffers.{Holds}
use Rattle.macros.specs.Starting.{started, Starts}
use Rattle.macros.proofs.Kept.{started_sound}
use Rattle.writing.specs.Written.{text_of, map_of}
use Rattle.writing.proofs.Laws.{text_length}
use Rattle.places.specs.Places.{newlines, line_at, place_of}
use Rattle.blocks.specs.Stacks.{open_in}
use Rattle.copying.specs.Cursors.{opening}
use Rattle.copying.specs.Copying.{Reads}
use Rattle.handover.specs.Entries.{blank_entry, body_of}
use Rattle.handover.specs.Sizes.{HandOver, Rooms, is_sound}
use Rattle.handover.proofs.Laws.{entries_sound, entry-body, Sound, sound_facts}
use Rattle.turns.specs.States.{Context, State}
use Rattle.turns.specs.Runs.{Run, run_from, measure, context_of, start_of, Outcome, line_of, outcome_of, not_taken, ran_over, flattened}
use Rattle.turns.proofs.Rooms.{Fits, run_fits}
use Rattle.steps.specs.declared.stage.Stage.{Stage}
use Rattle.running.specs.declared.Last.{Last}
use Rattle.flatten.specs.declared.Flattened.{Flattened}
use Rattle.steps.specs.Standing.{Bufs, bufs, outer_frames, state_of, Fixed}
use Rattle.dispatch.specs.Going.{Going}
use Rattle.running.specs.Ending.{Final, finish, ended, Finishes}
use Rattle.flatten.specs.Flattening.{Lent, lent, rooms_of, hand_over, over, answer_of, answer_from, start_stage, Startable, Leaves, HoldsMacros, RunLeaves, Flattens}

-- ---- the line of a refusal

pub line_none : (n k : ℕ) → n ≡ 0 → 0 ≡ cond (eqb n 0) 0 k
line_none n k h = rw (eq-eqb n 0 h)

pub line_some : (n k r : ℕ) → (n ≡ 0 → ⊥) → r ≡ k → r ≡ cond (eqb n 0) 0 k
line_some n k r h e = rw (ne_eqb n 0 h) e

-- a file that there is not has the one line
pub line_past : (s : List ℕ) (t : List (List ℕ)) (f b : ℕ) → length t ≤ f → 1 ≡ line_at (body_of s t f) b
unfolding line_at newlines
line_past s t f b h =
    let e : get_or t f blank_entry ≡ blank_entry = get_or-eq_default t blank_entry h in
    rw (e, take-nil b)

-- ---- the start

-- a repeat is as long as it says
pub filled : (n : ℕ) → n ≤ length {A = ℕ} (replicate n 0)
filled n = omega (arith, length-replicate {A = ℕ} n 0)

module _ {store : List ℕ} {table : List (List ℕ)} {root : ℕ} {bs : List ℕ} {rs : List (List ℕ)} {macros : ℕ} {name form : List ℕ} (a : Startable store table root bs rs macros name form) where
  root_reads : Reads (body_of store table root) (place_of root 0) opening
  root_reads =
      record {
        small = entry-body store (get_or table root blank_entry) (entries_sound store table root a.entries a.root_in);
        place_small = omega (arith, a.root_in, a.few_entries);
        inside = omega arith;
        line_small = omega arith;
      }

  -- the first stage can go on
  pub start_going : (set : ℕ) (tx mp : List ℕ) (fr cd : List (List ℕ)) (z : Stage) → z ≡ start_stage root set macros → 16 ≤ length fr → 32 ≤ length cd
      → Going store table (bufs tx mp bs rs fr cd) z
  unfolding open_in
  start_going set tx mp fr cd z q f c =
      rw q
      (record {
        ok =
            record {
              few_files = omega arith;
              file_in = a.root_in;
              copyable = record { reads = root_reads; in_text = omega arith; in_map = omega arith };
              outer = λ k h. absurd (omega arith);
              frames_lent = f;
              blocks_are = record { few = omega arith; lent = c; taken_is = refl };
              few_macros = a.few_macros;
            };
        entries = a.entries;
        few_entries = a.few_entries;
        bytes_small = a.bytes_small;
        stored = a.stored;
      })

  -- what is fixed from there on
  pub start_fixed : (starts : List (List ℕ)) (set limit : ℕ) (tx mp : List ℕ) (fr cd : List (List ℕ))
      → Fixed (context_of (hand_over store table root starts set limit) (rooms_of (lent tx mp rs bs))) store table set (bufs tx mp bs rs fr cd)
  start_fixed starts set limit tx mp fr cd =
      record {
        store_is = refl;
        table_is = refl;
        set_is = refl;
        records_are = refl;
        bytes_are = refl;
        entries = a.entries;
        few_entries = a.few_entries;
        bytes_small = a.bytes_small;
      }

-- ---- the end

-- what is stored from the front on stands there, all behind as lent
sets_over : (w l : List ℕ) → length w ≤ length l → sets l 0 w ≡ over w l
sets_over w l h =
    sets-eq w l 0 (omega arith) ∙ ap (λ (n : ℕ). w ++ drop n l) (zero-add (length w))

-- the answer to all that a run leaves
abbrev told : List ℕ → List (List ℕ) → Final → Flattened
told s t f =
    record {
      number = f.number;
      file = f.file;
      line = line_of s t f.number f.file f.byte;
      byte = f.byte;
      written = f.spot.written;
      lines = f.spot.lines;
      macros = length f.macros;
      stored = length (encode f.macros);
      count = f.count;
      deepest = f.deepest;
      settings = f.settings;
    }

told_counted : (s : List ℕ) (t : List (List ℕ)) (B : Bufs) (ms : List Macro) (l : Last) → l.stage.macros ≡ length ms
    → answer_from s t ms l ≡ told s t (ended B l.stage l.number l.file l.byte ms)
told_counted s t B ms l e = rw e

-- an outcome's answer with other lengths and counts
abbrev numbered : Outcome → ℕ → ℕ → ℕ → ℕ → Flattened
numbered o w l c d =
    record {
      number = o.number;
      file = o.file;
      line = o.line;
      byte = o.byte;
      written = w;
      lines = l;
      macros = length o.macros;
      stored = length (encode o.macros);
      count = c;
      deepest = d;
      settings = o.settings;
    }

numbered_same : (o : Outcome) (w l c d : ℕ) → w ≡ length o.text → l ≡ length o.map → c ≡ o.count → d ≡ o.depth
    → numbered o w l c d ≡ answer_of o
numbered_same o w l c d e f g h = rw (e, f, g, h)

told_outcome : (x : Context) (B : Bufs) (root set n : ℕ) (r : Run)
    → told x.store x.table (finish B (start_stage root set n) r) ≡ answer_of (outcome_of x r)
told_outcome x B root set n r =
    numbered_same (outcome_of x r) (0 + length r.text) (0 + length (map_of true r.text)) (0 + r.count) (max 0 r.depth)
    (omega (arith, text_length r.text)) (omega arith) (omega arith) (omega arith)

module _ (store : List ℕ) (table starts : List (List ℕ)) (root set limit : ℕ) (tx mp bs : List ℕ) (rs fr cd : List (List ℕ)) where
  abbrev Given : HandOver
  Given = hand_over store table root starts set limit

  abbrev Room : Rooms
  Room = rooms_of (lent tx mp rs bs)

  abbrev Whole : Run
  Whole = run_from (context_of Given Room) (start_of Given Room)

  -- the first stage stands for the first state
  start_state : (n : ℕ) → state_of limit (bufs tx mp bs rs fr cd) (started store starts) (start_stage root set n) ≡ start_of Given Room
  unfolding open_in outer_frames
  start_state n = rw (sub-zero (length tx), sub-zero (length mp), sub-zero limit)

  run_in : Fits (start_of Given Room).room Whole.text
  unfolding run_from
  run_in = run_fits (measure (context_of Given Room) (start_of Given Room).frames) (context_of Given Room) (start_of Given Room)

  -- what the run's end leaves
  pub run_leaves : (macros : ℕ) (name form : List ℕ) (z : Stage) (B' : Bufs) (l : Last) (a : Flattened)
      → Startable store table root bs rs macros name form → z ≡ start_stage root set macros → Holds (started store starts) bs rs macros
      → ((x : Context) (ms : List Macro) → Fixed x store table set (bufs tx mp bs rs fr cd) → Holds ms bs rs z.macros
      → Finishes x limit (bufs tx mp bs rs fr cd) B' ms z l.stage l.number l.file l.byte)
      → ((ms : List Macro) (b : List ℕ) → Holds ms b B'.records l.stage.macros → a ≡ answer_from store table ms l)
      → RunLeaves Given (lent tx mp rs bs) (lent B'.text B'.map B'.records B'.bytes) a
  run_leaves macros name form z B' l a s q h u k =
      let fin = u (context_of Given Room) (started store starts) (start_fixed s starts set limit tx mp fr cd) (rw q h) in
      let e : finish (bufs tx mp bs rs fr cd) (start_stage root set macros) Whole ≡ ended B' l.stage l.number l.file l.byte fin.macros =
      ap (λ (s : State). finish (bufs tx mp bs rs fr cd) (start_stage root set macros) (run_from (context_of Given Room) s)) (sym (start_state macros))
      ∙ ap (λ (y : Stage). finish (bufs tx mp bs rs fr cd) y (run_from (context_of Given Room) (state_of limit (bufs tx mp bs rs fr cd) (started store starts) y))) (sym q)
      ∙ fin.the_end in
      let t : sets tx 0 (text_of Whole.text) ≡ B'.text = ap (λ (f : Final). f.text) e in
      let m : sets mp 0 (map_of true Whole.text) ≡ B'.map = ap (λ (f : Final). f.map) e in
      let d : Whole.macros ≡ fin.macros = ap (λ (f : Final). f.macros) e in
      record {
        leaves = record {
          answer =
              k fin.macros B'.bytes fin.holds ∙ told_counted store table B' fin.macros l fin.holds.count
              ∙ ap (told store table) (sym e) ∙ told_outcome (context_of Given Room) (bufs tx mp bs rs fr cd) root set macros Whole;
          text_is = sym t ∙ sets_over (text_of Whole.text) tx (rw (text_length Whole.text) run_in.in_text);
          map_is = sym m ∙ sets_over (map_of true Whole.text) mp run_in.in_map;
        };
        macros_are =
            subst (λ (ms : List Macro). Holds ms B'.bytes B'.records (length ms)) (sym d)
            (record { bytes = fin.holds.bytes; rows = fin.holds.rows; count = refl });
      }

-- ---- the hand-over

-- refusal 1
pub not_sound : (h : HandOver) (l : Lent) (a : Flattened) → is_sound h (rooms_of l) ≡ false → a ≡ answer_of not_taken → Flattens h l l a
unfolding flattened
not_sound h l a e q =
    let f : not_taken ≡ flattened h (rooms_of l) = rw e in
    record {
      leaves = subst (λ (o : Outcome). Leaves o l.text l.text l.map l.map a) f (record { answer = q; text_is = refl; map_is = refl });
      untouched = λ n. (refl, refl);
      macros_are = λ y. true_false (is_sound h (rooms_of l)) y e;
    }

module _ (h : HandOver) (tx mp bs bs₁ : List ℕ) (rs rs₁ : List (List ℕ)) (e : is_sound h (rooms_of (lent tx mp rs bs)) ≡ true)
    (p : length bs₁ ≡ length bs) (q : length rs₁ ≡ length rs) where
  facts : Sound h (rooms_of (lent tx mp rs bs))
  facts = sound_facts h (rooms_of (lent tx mp rs bs)) e

  -- the start macros can be defined in an empty store
  pub starts_ready : (form : List ℕ) → Holds [] bs₁ rs₁ 0 → 1025 ≤ length form → Starts h.store h.starts bs₁ rs₁ form
  starts_ready form k l =
      record { small = omega (arith, p, facts.bytes_small); none = k; fit = rw (p, q) facts.starts_fit; form_long = l }

  -- then a run can begin
  pub run_ready : (n : ℕ) (name form : List ℕ) → Holds (started h.store h.starts) bs₁ rs₁ n → 1025 ≤ length name → 65536 ≤ length form
      → Startable h.store h.table h.root bs₁ rs₁ n name form
  run_ready n name form k a b =
      record {
        entries = facts.entries;
        few_entries = facts.few;
        root_in = facts.root_in;
        bytes_small = omega (arith, p, facts.bytes_small);
        few_macros =
            omega (arith, k.count, (started_sound (length rs) (length bs) h.store h.starts facts.starts_fit).few);
        stored = record { macros = started h.store h.starts; holds = k };
        name_lent = a;
        form_lent = b;
      }

  -- and what it leaves is the outcome
  pub flattens : (l' : Lent) (a : Flattened)
      → RunLeaves h (lent tx mp rs₁ bs₁) l' a → Flattens h (lent tx mp rs bs) l' a
  unfolding flattened
  flattens l' a k =
      let r : rooms_of (lent tx mp rs₁ bs₁) ≡ rooms_of (lent tx mp rs bs) = rw (p, q) in
      let f : ran_over h (rooms_of (lent tx mp rs₁ bs₁)) ≡ flattened h (rooms_of (lent tx mp rs bs)) =
      ap (ran_over h) r ∙ rw e in
      record {
        leaves = subst (λ (o : Outcome). Leaves o tx l'.text mp l'.map a) f k.leaves;
        untouched = λ n. true_false (is_sound h (rooms_of (lent tx mp rs bs))) e n;
        macros_are = λ y. subst (λ (o : Outcome). HoldsMacros o l') f k.macros_are;
      }
