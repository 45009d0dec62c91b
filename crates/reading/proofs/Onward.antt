-- A file read on: from one turn of the loop to the next, and what is answered.
-- Assumes nothing.
use Prim.Native.Nat.{ℕ, ◌-◌, ◌<◌, ◌≤◌}
use mathlib.Core.Bool.{Bool, true, false, ◌&&◌, ◌||◌, and-false}
use mathlib.Core.List.{List, [], ◌++◌, append-nil}
use mathlib.Core.Path.{◌≡◌, refl, sym, ap, ◌∙◌}
use native.Mathlib.Nat.{add-zero}
use native.Mathlib.Omega.{arith}
use lib.Dec.{eqb, leb, ltb}
use lib.ListN.{length}
use Rattle.std.specs.Prelude.{Ok, Err}
use borrow.Author.Tests.{ltb-true, ltb-false, lt-leb}
use Rattle.text.specs.Bytes.{part}
use Rattle.lex.specs.Tokens.{in_file, Grave, Newline, String, BlockComment, is, name_of}
use Rattle.lex.specs.declared.Fault.{Fault}
use Rattle.lex.specs.declared.Token.{Token}
use Rattle.lex.proofs.Progress.{token_ends, token_within, token_some}
use Rattle.names.specs.Names.{Ifdef, Endif, directive_of}
use Rattle.definition.specs.Definitions.{Macro}
use Rattle.settings.specs.declared.Settings.{Settings}
use Rattle.settings.specs.Settings.{reset_to}
use Rattle.store.specs.Buffers.{Holds, Stored}
use Rattle.writing.specs.Written.{Room}
use Rattle.writing.specs.Buffers.{room_of}
use Rattle.writing.specs.declared.Spot.{Spot}
use Rattle.writing.proofs.Laws.{puts_none, puts_append, puts_text, puts_map}
use Rattle.places.specs.Places.{place_of}
use Rattle.blocks.specs.Stacks.{open_in, BlocksIn}
use Rattle.blocks.specs.declared.Blocks.{Blocks}
use Rattle.handover.specs.Entries.{body_of}
use Rattle.copying.specs.Cursors.{stops_at, cursor_behind}
use Rattle.copying.specs.Copying.{token_on, Copyable, CopiesTo}
use Rattle.copying.specs.declared.Copied.{Copied}
use Rattle.copying.specs.declared.Copied.TheVariants as copied
use Rattle.copying.specs.declared.Cursor.{Cursor}
use Rattle.turns.specs.States.{Context, Frame, Here}
use Rattle.turns.specs.Acts.{conditional_act}
use Rattle.turns.specs.Performing.{perform}
use Rattle.turns.specs.Turns.{turn_at}
use Rattle.turns.specs.Leading.{Leads, standing}
use Rattle.turns.proofs.Leading.{leads_append}
use Rattle.choosing.specs.Choosing.{Chosen, Word, Chooses, ChosenBy}
use Rattle.reading.specs.declared.Reached.{Reached}
use Rattle.reading.specs.declared.Reached.TheVariants as reached
use Rattle.reading.specs.Reading.{SkippedBy, PassedBy, ReadsTo, ReachedBy, StaysBy}
use Rattle.places.proofs.Levels.{or_left, or_right, Level, level_on, other_kind, token_level}
use Rattle.reading.proofs.Lining.{word_level}
use Rattle.reading.proofs.Leading.{here_on, full_turn, barred_turn, word_turn, copies_lead, skips_lead, copies_onward, skips_onward, word_inside, word_grave}

-- the tests for a conditional word
pub outside_word : (d : ℕ) → (ltb d Ifdef || ltb Endif d) ≡ true → (leb Ifdef d && leb d Endif) ≡ false
outside_word d h = go (ltb d Ifdef) refl
  where
    go : (t : Bool) → ltb d Ifdef ≡ t → (leb Ifdef d && leb d Endif) ≡ false
    go true e = rw (lt-leb Ifdef d (ltb-true d Ifdef e))
    go false e = rw (lt-leb d Endif (ltb-true Endif d (rw e at h)), and-false)

pub word_low : (d : ℕ) → (ltb d Ifdef || ltb Endif d) ≡ false → 6 ≤ d
word_low d h = ltb-false d Ifdef (or_left (ltb d Ifdef) _ h)

pub word_high : (d : ℕ) → (ltb d Ifdef || ltb Endif d) ≡ false → d ≤ 10
word_high d h = ltb-false Endif d (or_right (ltb d Ifdef) _ h)

-- what was read so far, from the cursor, spot and open conditionals of the start
pub record Onward (s : List ℕ) (file : ℕ) (b : List ℕ) (rs : List (List ℕ)) (n : ℕ) (w₀ w : List (List ℕ)) (text₀ text map₀ map : List ℕ) (c₀ c : Cursor) (z₀ z : Spot) (k₀ k : Blocks) : Type 0 where
  pub copyable : Copyable s (place_of file 0) text map c z
  pub blocks_are : BlocksIn w k
  pub same_conds : length w ≡ length w₀
  pub same_text : length text ≡ length text₀
  pub same_map : length map ≡ length map₀
  pub reads_to : (a : Context) (fs : List Frame) (ms : List Macro) (st : Settings) (left : ℕ) → body_of a.store a.table file ≡ s → Holds ms b rs n
      → ReadsTo s file a fs ms st left w₀ w text₀ text map₀ map c₀ c z₀ z k₀ k

-- what `read_on` ensures
abbrev pub Answers : Reached → List ℕ → ℕ → List ℕ → List (List ℕ) → ℕ → List (List ℕ) → List (List ℕ) → List ℕ → List ℕ → List ℕ → List ℕ → Cursor → Spot → Blocks → Type 0
Answers r s file b rs n w₀ w text₀ text map₀ map c₀ z₀ k₀ =
    StaysBy r s file w text map
    × ((a : Context) (fs : List Frame) (ms : List Macro) (st : Settings) (left : ℕ) → body_of a.store a.table file ≡ s → Holds ms b rs n
    → ReachedBy r s file a fs ms st left w₀ w text₀ text map₀ map c₀ z₀ k₀)

pub onward_none : {s : List ℕ} {file : ℕ} {b : List ℕ} {rs : List (List ℕ)} {n : ℕ} {w : List (List ℕ)} {text map : List ℕ} {c : Cursor} {z : Spot} {k : Blocks}
    → Copyable s (place_of file 0) text map c z → BlocksIn w k → Onward s file b rs n w w text text map map c c z z k k
onward_none {text = text} {map} {z = z} h g =
    record {
      copyable = h;
      blocks_are = g;
      same_conds = refl;
      same_text = refl;
      same_map = refl;
      reads_to = λ a fs ms st left body holds. record { written = []; leads = Leads.here; puts = puts_none text map z };
    }

-- up to a token that stops
pub record Stopped (s : List ℕ) (file : ℕ) (b : List ℕ) (rs : List (List ℕ)) (n : ℕ) (w₀ w : List (List ℕ)) (text₀ text map₀ map : List ℕ) (c₀ c c' : Cursor) (z₀ z' : Spot) (k₀ k : Blocks) (t : Token) : Type 0 where
  pub onward : Onward s file b rs n w₀ w text₀ text map₀ map c₀ c' z₀ z' k₀ k
  pub token_is : t ≡ token_on s c'
  pub stops : stops_at t ≡ true
  pub further : c.at ≤ c'.at

module _ {s : List ℕ} {file : ℕ} {b : List ℕ} {rs : List (List ℕ)} {n : ℕ} {w₀ w : List (List ℕ)} {text₀ text map₀ map : List ℕ} {c₀ c : Cursor} {z₀ z : Spot} {k₀ k : Blocks}
    (o : Onward s file b rs n w₀ w text₀ text map₀ map c₀ c z₀ z k₀ k) where
  -- copied tokens
  module _ {text' map' : List ℕ} {c' : Cursor} {z' : Spot} (e : k.taken ≡ true) (p : CopiesTo s (place_of file 0) text text' map map' c c' z z') where
    onward_copied : Onward s file b rs n w₀ w text₀ text' map₀ map' c₀ c' z₀ z' k₀ k
    onward_copied =
        let g = sym o.blocks_are.taken_is ∙ e in
        record {
          copyable = p.copyable;
          blocks_are = o.blocks_are;
          same_conds = o.same_conds;
          same_text = puts_text p.puts ∙ o.same_text;
          same_map = puts_map p.puts ∙ o.same_map;
          reads_to =
              λ a fs ms st left body holds. let r = o.reads_to a fs ms st left body holds in
              record {
                written = r.written ++ p.written;
                leads = leads_append r.leads (copies_lead a fs ms st left file s body (open_in w k.open) g (rw (o.same_text, o.same_map) at p.copies));
                puts = puts_append r.puts p.puts;
              };
        }

  -- skipped ones
  module _ {text' map' : List ℕ} {c' : Cursor} {z' : Spot} {t : Token} (e : k.taken ≡ false) (p : SkippedBy (copied.Upto c' z' t) s (place_of file 0) text text' map map' c z) where
    onward_skipped : Onward s file b rs n w₀ w text₀ text' map₀ map' c₀ c' z₀ z' k₀ k
    onward_skipped =
        let g = sym o.blocks_are.taken_is ∙ e in
        rw (p.2, p.3, p.4)
        (record {
          copyable = record { reads = p.1; in_text = o.copyable.in_text; in_map = o.copyable.in_map };
          blocks_are = o.blocks_are;
          same_conds = o.same_conds;
          same_text = o.same_text;
          same_map = o.same_map;
          reads_to =
              λ a fs ms st left body holds. let r = o.reads_to a fs ms st left body holds in
              record {
                written = r.written;
                leads = rw (append-nil r.written) at (leads_append r.leads (skips_lead a fs ms st left file s body (open_in w k.open) (room_of (length text₀) (length map₀) z) g p.0));
                puts = r.puts;
              };
        })

  module _ {base : ℕ} {r : Copied} {text' map' : List ℕ} (q : base ≡ place_of file 0) (p : PassedBy k.taken r s base text text' map map' c z) where
    pub onward_upto : {c' : Cursor} {z' : Spot} {t : Token} → r ≡ copied.Upto c' z' t → Stopped s file b rs n w₀ w text₀ text' map₀ map' c₀ c c' z₀ z' k₀ k t
    onward_upto {c'} {z'} {t} y = go k.taken refl (rw (q, y) at p)
      where
        go : (x : Bool) → k.taken ≡ x → PassedBy x (copied.Upto c' z' t) s (place_of file 0) text text' map map' c z → Stopped s file b rs n w₀ w text₀ text' map₀ map' c₀ c c' z₀ z' k₀ k t
        go true e f = record { onward = onward_copied e f.0; token_is = f.1; stops = f.2; further = copies_onward s f.0.copies }
        go false e f = record { onward = onward_skipped e f; token_is = f.5; stops = f.6; further = skips_onward s f.0 }

    pub answers_full : {c' : Cursor} {z' : Spot} {i : ℕ} → r ≡ copied.Full c' z' i
        → Answers (reached.Refused c' z' k i c'.at) s file b rs n w₀ w text₀ text' map₀ map' c₀ z₀ k₀
    answers_full {c'} {z'} {i} y = go k.taken refl (rw (q, y) at p)
      where
        go : (x : Bool) → k.taken ≡ x → PassedBy x (copied.Full c' z' i) s (place_of file 0) text text' map map' c z
            → Answers (reached.Refused c' z' k i c'.at) s file b rs n w₀ w text₀ text' map₀ map' c₀ z₀ k₀
        go true e f =
            let v : Onward s file b rs n w₀ w text₀ text' map₀ map' c₀ c' z₀ z' k₀ k = onward_copied e f.0 in (
              record { copyable = v.copyable; blocks_are = v.blocks_are },
              λ a fs ms st left body holds. (
                v.reads_to a fs ms st left body holds,
                full_turn a fs ms st left file s body c' (open_in w k.open) (room_of (length text₀) (length map₀) z') f.1 (sym o.blocks_are.taken_is ∙ e) i (rw (o.same_text, o.same_map) at f.2),
              ),
            )
        go false e f = absurd f

-- a context of no files, and no room
abbrev nowhere : Context
nowhere = record { store = []; table = []; set = 0; records = 0; bytes = 0 }

abbrev no_room : Room
no_room = record { bytes = 0; lines = 0; fresh = true }

-- at a token that stops
module _ {s : List ℕ} {file : ℕ} {b : List ℕ} {rs : List (List ℕ)} {n : ℕ} {w₀ w : List (List ℕ)} {text₀ text map₀ map : List ℕ} {c₀ c₁ c : Cursor} {z₀ z : Spot} {k₀ k : Blocks} {t : Token}
    (o : Stopped s file b rs n w₀ w text₀ text map₀ map c₀ c₁ c z₀ z k₀ k t) where
  pub answers_barred : (t.bar ≡ 0 → ⊥) → Answers (reached.Refused c z k t.bar t.at) s file b rs n w₀ w text₀ text map₀ map c₀ z₀ k₀
  answers_barred h = (
    record { copyable = o.onward.copyable; blocks_are = o.onward.blocks_are },
    λ a fs ms st left body holds. (
      o.onward.reads_to a fs ms st left body holds,
      barred_turn a fs ms st left file s body c (open_in w k.open) (room_of (length text₀) (length map₀) z) o.token_is h,
    ),
  )

  module _ {d : ℕ} {v : List ℕ} (clear : t.bar ≡ 0) (f : v ≡ part s t.from t.end) (q : d ≡ directive_of v) where
    pub answers_upto : (leb Ifdef d && leb d Endif) ≡ false → Answers (reached.Upto c z k t d) s file b rs n w₀ w text₀ text map₀ map c₀ z₀ k₀
    answers_upto h = (
      record { copyable = o.onward.copyable; blocks_are = o.onward.blocks_are },
      λ a fs ms st left body holds. (
        o.onward.reads_to a fs ms st left body holds,
        record { token_is = o.token_is; stops = o.stops; clear = clear; directive_is = q ∙ ap directive_of f; no_conditional = h },
      ),
    )

    module _ (low : 6 ≤ d) (high : d ≤ 10) where
      named : d ≡ directive_of (name_of s (token_on s c))
      named = q ∙ ap directive_of f ∙ ap (λ (y : Token). directive_of (name_of s y)) o.token_is

      in-file : c.at < length s
      in-file = word_inside s c d named low

      free : (token_on s c).bar ≡ 0
      free = rw o.token_is at clear

      accent : is Grave (token_on s c) ≡ true
      accent = word_grave s c in-file (rw o.token_is at o.stops) free

      word_is : (a : Context) (fs : List Frame) (ms : List Macro) (st : Settings) (left : ℕ) (r : Room) → body_of a.store a.table file ≡ s
          → turn_at a (standing fs ms st left file c (open_in w k.open) r) ≡ perform (here_on a fs ms st left file s c (open_in w k.open) r) (conditional_act d (here_on a fs ms st left file s c (open_in w k.open) r))
      word_is a fs ms st left r body = word_turn a fs ms st left file s body c (open_in w k.open) r free (token_some in_file s c.at in-file) accent d named low high

      module _ (stored : Stored b rs n) (x : Chosen) (w' : List (List ℕ))
          (does : (h : Here) → Word h s t file w k b rs n → ChosenBy x (conditional_act d h) w w') where
        -- the word in any run
        at_word : (a : Context) (fs : List Frame) (ms : List Macro) (st : Settings) (left : ℕ) (r : Room) → Holds ms b rs n
            → ChosenBy x (conditional_act d (here_on a fs ms st left file s c (open_in w k.open) r)) w w'
        at_word a fs ms st left r holds =
            does (here_on a fs ms st left file s c (open_in w k.open) r)
            (record { body_is = refl; token_is = sym o.token_is; file_is = refl; conds_are = refl; macros_are = holds })

        -- .. and in one that there is
        some_word : ChosenBy x (conditional_act d (here_on nowhere [] stored.macros (reset_to 0) 0 file s c (open_in w k.open) no_room)) w w'
        some_word = at_word nowhere [] stored.macros (reset_to 0) 0 no_room stored.holds

        pub answers_refused : {g : Fault} → x ≡ Err g → Answers (reached.Refused c z k g.number g.place) s file b rs n w₀ w' text₀ text map₀ map c₀ z₀ k₀
        answers_refused y =
            let same : w' ≡ w = (rw y at some_word).1 in
            rw same (
              record { copyable = o.onward.copyable; blocks_are = o.onward.blocks_are },
              λ a fs ms st left body holds. (
                o.onward.reads_to a fs ms st left body holds,
                word_is a fs ms st left (room_of (length text₀) (length map₀) z) body ∙ ap (perform (here_on a fs ms st left file s c (open_in w k.open) (room_of (length text₀) (length map₀) z))) (rw y at (at_word a fs ms st left (room_of (length text₀) (length map₀) z) holds)).0,
              ),
            )

        module _ {k' : Blocks} {e : ℕ} (y : x ≡ Ok (k', e)) where
          chooses : Chooses (conditional_act d (here_on nowhere [] stored.macros (reset_to 0) 0 file s c (open_in w k.open) no_room)) w' k' e
          chooses = rw y at some_word

          -- the word ends on its line
          level : Level s c.at e
          level =
              level_on (token_level in_file refl s c.at in-file (other_kind (λ i. eqb i Grave) Newline refl (token_on s c).kind accent) (other_kind (λ i. eqb i Grave) String refl (token_on s c).kind accent) (rw (other_kind (λ i. eqb i Grave) BlockComment refl (token_on s c).kind accent)))
              (word_level (here_on nowhere [] stored.macros (reset_to 0) 0 file s c (open_in w k.open) no_room) (token_within in_file s c.at in-file) d (open_in w' k'.open) e chooses.act_is)

          longer : c.at < e
          longer =
              let l = word_level (here_on nowhere [] stored.macros (reset_to 0) 0 file s c (open_in w k.open) no_room) (token_within in_file s c.at in-file) d (open_in w' k'.open) e chooses.act_is in
              omega (arith, l.inside.past, token_ends in_file s c.at in-file)

          cursor_flat : cursor_behind s e c ≡ record { at = e; line = c.line; other = true; comment = false }
          unfolding cursor_behind
          cursor_flat = rw (level.flat, add-zero c.line)

          module _ {c' : Cursor} (m : c' ≡ record { at = e; line = c.line; other = true; comment = false }) where
            pub onward_less : length s - c'.at < length s - c₁.at
            onward_less = let j : c'.at ≡ e = ap (λ (u : Cursor). u.at) m in omega (arith, longer, o.further, level.inside.within)

            pub onward_word : length w' ≡ length w → Onward s file b rs n w₀ w' text₀ text map₀ map c₀ c' z₀ z k₀ k'
            onward_word same =
                let v = o.onward in
                rw m
                (record {
                  copyable =
                      record {
                        reads =
                            record {
                              small = v.copyable.reads.small;
                              place_small = v.copyable.reads.place_small;
                              inside = level.inside.within;
                              line_small = omega (arith, longer, v.copyable.reads.line_small);
                            };
                        in_text = v.copyable.in_text;
                        in_map = v.copyable.in_map;
                      };
                  blocks_are = chooses.blocks_are;
                  same_conds = same ∙ v.same_conds;
                  same_text = v.same_text;
                  same_map = v.same_map;
                  reads_to =
                      λ a fs ms st left body holds. let r = v.reads_to a fs ms st left body holds in
                      let room = room_of (length text₀) (length map₀) z in
                      let g : Chooses (conditional_act d (here_on a fs ms st left file s c (open_in w k.open) room)) w' k' e = rw y at (at_word a fs ms st left room holds) in
                      record {
                        written = r.written;
                        leads = rw (append-nil r.written) at (leads_append r.leads (rw cursor_flat at (Leads.then (word_is a fs ms st left room body ∙ ap (perform (here_on a fs ms st left file s c (open_in w k.open) room)) g.act_is) Leads.here)));
                        puts = r.puts;
                      };
                })
