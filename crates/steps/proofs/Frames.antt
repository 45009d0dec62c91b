-- The steps into an included file and back to the file around, by what the code knows.
-- Assumes nothing.
use Prim.Native.Nat.{ℕ, zero, suc, max, ◌+◌, ◌-◌, ◌<◌, ◌≤◌}
use mathlib.Core.Bool.{Bool, true, false}
use mathlib.Core.List.{List, [], ◌∷◌, append-nil}
use mathlib.Core.Path.{◌≡◌, refl, sym, ap, subst, ◌∙◌}
use native.Mathlib.Omega.{arith}
use lib.Dec.{eqb}
use lib.ListN.{length, get_or, set, length-set}
use lib.Seq.{get_or-set_same, get_or-set_other}
use borrow.Author.Tests.{eqb-true, eqb-false}
use Rattle.std.specs.Prelude.{Ok as well, Err as refused}
use Rattle.lex.specs.declared.Fault.{Fault}
use Rattle.lex.specs.declared.Token.{Token}
use Rattle.lex.specs.Tokens.{in_file}
use Rattle.lex.proofs.Tests.{true_false}
use Rattle.lex.proofs.Progress.{Inside, token-at}
use Rattle.directive.specs.Include.{include_at}
use Rattle.definition.specs.Definitions.{Macro}
use Rattle.writing.specs.Written.{Written, placed, full, fitted, put_in}
use Rattle.writing.specs.Buffers.{room_of, Puts, WroteBy}
use Rattle.writing.specs.declared.Spot.{Spot}
use Rattle.writing.specs.declared.Wrote.{Wrote}
use Rattle.writing.specs.declared.Wrote.TheVariants as wrote
use Rattle.writing.proofs.Laws.{puts_append, puts_text, puts_map}
use Rattle.places.specs.Places.{place_of}
use Rattle.handover.specs.Entries.{blank_entry, body_of}
use Rattle.handover.proofs.Laws.{entries_sound, entry-body}
use Rattle.handover.proofs.Walking.{read_any}
use Rattle.copying.specs.declared.Cursor.{Cursor}
use Rattle.copying.specs.Cursors.{opening, cursor_behind}
use Rattle.copying.specs.Copying.{Reads}
use Rattle.turns.specs.States.{Context, Frame, State, Made, nothing, writes, Turn, more, stop, finished, Here, behind, go_to, place_here}
use Rattle.turns.specs.Acts as acts
use Rattle.turns.specs.Acts.{include_act}
use Rattle.turns.specs.Performing.{perform}
use Rattle.including.specs.Including.{Entered, IncludeHere, Enters, EnteredBy}
use Rattle.keeping.proofs.Keeping.{put_number}
use Rattle.steps.specs.declared.stage.Stage.{Stage}
use Rattle.steps.specs.declared.stage.Step.{Step}
use Rattle.steps.specs.declared.stage.Step.TheVariants as step
use Rattle.steps.specs.Standing.{Bufs, bufs, blank_frame, frame_in, outer_frames, open_frames, here_of, ended_at, with_cursor, with_spot, entered_at, FrameOk, Ok, Fixed, At, is_end, SteppedBy, FramesBy, LeftBy, LeavesBy}
use Rattle.steps.proofs.Going.{open_first, placed_at, goes, ok_at, refuses, reads_there, body_here, token_at_here, inside_there}

-- ---- the open files

pub outer_length : (w : List (List ℕ)) (n : ℕ) → length (outer_frames w n) ≡ n
unfolding outer_frames
outer_length w zero = refl
outer_length w (suc n) = ap suc (outer_length w n)

-- a store behind the first n changes none of them
outer_set : (w : List (List ℕ)) (n i : ℕ) (v : List ℕ) → n ≤ i → outer_frames (set w i v) n ≡ outer_frames w n
unfolding outer_frames
outer_set w zero i v h = refl
outer_set w (suc n) i v h =
    let e : get_or (set w i v) n blank_frame ≡ get_or w n blank_frame = get_or-set_other w i n v blank_frame (λ z. omega arith) in
    let r : outer_frames (set w i v) n ≡ outer_frames w n = outer_set w n i v (omega arith) in
    rw (e, r)

-- a store at d - 1 makes the innermost of d
outer_put : (w : List (List ℕ)) (d : ℕ) (v : List ℕ) → 0 < d → d ≤ length w → outer_frames (set w (d - 1) v) d ≡ frame_in v ∷ outer_frames w (d - 1)
unfolding outer_frames
outer_put w zero v h l = absurd (omega arith)
outer_put w (suc n) v h l =
    let e : suc n - 1 ≡ n = omega arith in
    subst (λ (m : ℕ). outer_frames (set w m v) (suc n) ≡ frame_in v ∷ outer_frames w m) (sym e)
    (rw (get_or-set_same w n v blank_frame (omega arith), outer_set w n n v (omega arith)))

outer_none : (w : List (List ℕ)) (n file : ℕ) (c : Cursor) → n ≡ 0 → open_frames w n file c ≡ outer_frames w n
unfolding outer_frames
outer_none w n file c e = rw e

-- the innermost of n is read at n - 1
outer_top : (w : List (List ℕ)) (n : ℕ) (v : List ℕ) → 0 < n → n ≤ length w → v ≡ get_or w (n - 1) [] → open_frames w n (frame_in v).file (frame_in v).cursor ≡ outer_frames w n
unfolding outer_frames
outer_top w zero v h l e = absurd (omega arith)
outer_top w (suc n) v h l e =
    let k : suc n - 1 ≡ n = omega arith in
    let q : v ≡ get_or w n blank_frame = e ∙ rw k (read_any w n [] blank_frame (omega arith)) in
    rw q

-- ---- back to the file around

-- a frame's cursor reads its file
frame_reads : {x : Context} {fs : List ℕ} {es : List (List ℕ)} {kind : ℕ} {B : Bufs} (v : List ℕ) → Fixed x fs es kind B → FrameOk fs es v
    → Reads (body_of fs es (get_or v 0 0)) (place_of (get_or v 0 0) 0) (frame_in v).cursor
frame_reads {fs = fs} {es = es} v f k =
    record {
      small = entry-body fs (get_or es (get_or v 0 0) blank_entry) (entries_sound fs es (get_or v 0 0) f.entries k.file_in);
      place_small = omega (arith, k.file_in, f.few_entries);
      inside = k.inside;
      line_small = k.line_small;
    }

-- to none
pub leave_last : (fr : List (List ℕ)) (z : Stage) (n : ℕ) → n ≡ z.depth - 1 → n ≡ 0 → LeftBy (step.On (placed_at z n z.file z.cursor z.macros)) fr z
leave_last fr z n e q fs es kind limit tx mp bs rs cd x ms f o h =
    let a : z.depth ≤ 16 = o.few_files in (
      goes x limit tx mp bs bs rs rs fr fr cd ms ms z n z.file z.cursor z.macros _ _ refl (outer_none fr n z.file z.cursor q ∙ ap (outer_frames fr) e) h,
      ok_at tx mp bs bs rs rs fr fr cd z n z.file z.cursor z.macros o (omega arith) o.file_in o.copyable.reads (λ k l. absurd (omega arith)) o.frames_lent o.few_macros,
    )

-- to the innermost frame
pub leave_outer : (fr : List (List ℕ)) (z : Stage) (n : ℕ) (v : List ℕ) → n ≡ z.depth - 1 → (n ≡ 0 → ⊥) → v ≡ get_or fr (n - 1) []
    → LeftBy (step.On (placed_at z n (frame_in v).file (frame_in v).cursor z.macros)) fr z
leave_outer fr z n v e q w fs es kind limit tx mp bs rs cd x ms f o h =
    let a : z.depth ≤ 16 = o.few_files in
    let l : 16 ≤ length fr = o.frames_lent in
    let p : 0 < n = omega (arith, q) in
    let r : v ≡ get_or fr (n - 1) blank_frame = w ∙ read_any fr (n - 1) [] blank_frame (omega arith) in
    let k : FrameOk fs es v = subst (λ (v : List ℕ). FrameOk fs es v) (sym r) (o.outer (n - 1) (omega arith)) in (
      goes x limit tx mp bs bs rs rs fr fr cd ms ms z n (frame_in v).file (frame_in v).cursor z.macros _ _ refl
          (outer_top fr n v p (omega arith) w ∙ ap (outer_frames fr) e) h,
      ok_at tx mp bs bs rs rs fr fr cd z n (frame_in v).file (frame_in v).cursor z.macros o (omega arith) k.file_in (frame_reads v f k)
          (λ j m. o.outer j (omega arith)) l o.few_macros,
    )

-- ---- the end of a file

end_goes : (h : Here) → h.frame.cursor.comment ≡ false → perform h acts.leaves ≡ go_to h h.others h.state.conds h.state.macros
end_goes h e = rw e

pub end_plain : (fr : List (List ℕ)) (z : Stage) (r : Step) (text map : List ℕ) → z.cursor.comment ≡ false
    → LeftBy r fr z → LeavesBy r fr text text map map z
end_plain fr z r text map e k fs es kind limit bs rs cd x ms f o h =
    subst (λ (u : Turn). SteppedBy r fs es limit (bufs text map bs rs fr cd) (bufs text map bs rs fr cd) ms z u)
    (sym (end_goes (here_of x limit (bufs text map bs rs fr cd) ms z) e)) (k fs es kind limit text map bs rs cd x ms f o h)

-- what a turn made
made_of : Turn → Made
made_of (more s m) = m
made_of (stop n f p m) = m
made_of finished = nothing

is_more : Turn → Bool
is_more (more s m) = true
is_more (stop n f p m) = false
is_more finished = false

end_more : (n f p : ℕ) (m : Made) → is_more (is_end n f p m) ≡ false
unfolding is_more
end_more zero f p m = refl
end_more (suc n) f p m = refl

state_of : State → Turn → State
state_of d (more s m) = s
state_of d (stop n f p m) = d
state_of d finished = d

-- what was written first, and a step behind it that writes nothing
pub after_put : (fs : List ℕ) (es : List (List ℕ)) (limit : ℕ) (tx tx' mp mp' bs : List ℕ) (rs fr cd : List (List ℕ)) (ms : List Macro) (z : Stage) (y : Spot) (ws : List Written) (st : State) (u : Turn) (r : Step)
    → Puts ws tx tx' mp mp' z.spot y → u ≡ more st (writes ws)
    → SteppedBy r fs es limit (bufs tx' mp' bs rs fr cd) (bufs tx' mp' bs rs fr cd) ms (with_spot z y) (more st nothing)
    → SteppedBy r fs es limit (bufs tx mp bs rs fr cd) (bufs tx' mp' bs rs fr cd) ms z u
unfolding made_of state_of is_more
after_put fs es limit tx tx' mp mp' bs rs fr cd ms z y ws st u (step.On z') w e (m, o) =
    let g : nothing ≡ m.made = ap made_of m.turn_is in
    let p : Puts [] tx' tx' mp' mp' y z'.spot = subst (λ (a : Made). Puts a.text tx' tx' mp' mp' y z'.spot) (sym g) m.puts in
    let c : z'.count ≡ z.count + 0 = subst (λ (a : Made). z'.count ≡ z.count + a.count) (sym g) m.count_is in
    let d : z'.deepest ≡ max z.deepest 0 = subst (λ (a : Made). z'.deepest ≡ max z.deepest a.depth) (sym g) m.deepest_is in (
      record {
        macros = m.macros;
        made = writes ws;
        turn_is = e ∙ ap (λ (s : State). more s (writes ws)) (ap (state_of st) m.turn_is);
        holds = m.holds;
        puts = subst (λ (v : List Written). Puts v tx tx' mp mp' z.spot z'.spot) (append-nil ws) (puts_append w p);
        count_is = c;
        deepest_is = d;
      },
      o,
    )
after_put fs es limit tx tx' mp mp' bs rs fr cd ms z y ws st u (step.Ended z' n f p) w e m =
    let g : true ≡ false = ap is_more m.turn_is ∙ end_more n f p m.made in
    true_false true refl g

-- the state with the file left and a newline written
abbrev state_at : Here → Spot → ℕ → ℕ → State
state_at h v text map =
    record {
      frames = h.others;
      conds = h.state.conds;
      macros = h.state.macros;
      settings = h.state.settings;
      room = room_of text map v;
      left = h.state.left;
    }

end_turn : (h : Here) (v : Spot) (text map text' map' : ℕ) → h.frame.cursor.comment ≡ true → text ≡ text' → map ≡ map'
    → put_in h.state.room (placed 1 (place_here h) (10 ∷ [])) ≡ fitted (room_of text map v)
    → perform h acts.leaves ≡ more (state_at h v text' map') (writes (placed 1 (place_here h) (10 ∷ [])))
end_turn h v text map text' map' e p q b = rw (e, b, p, q)

pub end_written : (fr : List (List ℕ)) (z y : Stage) (v : Spot) (g : Wrote) (r : Step) (text text' map map' : List ℕ) (place : ℕ) → z.cursor.comment ≡ true
    → place ≡ place_of z.file z.cursor.line → WroteBy g (placed 1 place (10 ∷ [])) text text' map map' z.spot → g ≡ wrote.Upto v → y ≡ with_spot z v
    → LeftBy r fr y → LeavesBy r fr text text' map map' z
end_written fr z y v g r text text' map map' place e p w q t k fs es kind limit bs rs cd x ms f o h =
    let ws = placed 1 (place_of z.file z.cursor.line) (10 ∷ []) in
    let H = here_of x limit (bufs text map bs rs fr cd) ms z in
    let w₁ : WroteBy g ws text text' map map' z.spot = subst (λ (p : ℕ). WroteBy g (placed 1 p (10 ∷ [])) text text' map map' z.spot) p w in
    let w₂ : WroteBy (wrote.Upto v) ws text text' map map' z.spot = subst (λ (g : Wrote). WroteBy g ws text text' map map' z.spot) q w₁ in
    let a : Puts ws text text' map map' z.spot v = w₂.0 in
    let b : put_in (room_of (length text) (length map) z.spot) ws ≡ fitted (room_of (length text) (length map) v) = w₂.1 in
    let lt : length text' ≡ length text = puts_text a in
    let lm : length map' ≡ length map = puts_map a in
    let o' : Ok fs es (bufs text' map' bs rs fr cd) (with_spot z v) = record {
      few_files = o.few_files;
      file_in = o.file_in;
      copyable = record { reads = o.copyable.reads; in_text = omega (arith, w₂.2); in_map = omega (arith, w₂.3) };
      outer = o.outer;
      frames_lent = o.frames_lent;
      blocks_are = o.blocks_are;
      few_macros = o.few_macros;
    } in
    let f' : Fixed x fs es kind (bufs text' map' bs rs fr cd) = record {
      store_is = f.store_is;
      table_is = f.table_is;
      set_is = f.set_is;
      records_are = f.records_are;
      bytes_are = f.bytes_are;
      entries = f.entries;
      few_entries = f.few_entries;
      bytes_small = f.bytes_small;
    } in
    let k' = subst (λ (y : Stage). LeftBy r fr y) t k in
    after_put fs es limit text text' map map' bs rs fr cd ms z v ws (state_at H v (length text') (length map')) (perform H acts.leaves) r a
    (end_turn H v (length text) (length map) (length text') (length map') e (sym lt) (sym lm) b)
    (k' fs es kind limit text' map' bs rs cd x ms f' o' h)

-- 19 or 20
pub end_full : (fr : List (List ℕ)) (z : Stage) (n : ℕ) (g : Wrote) (r : Step) (text text' map map' : List ℕ) (place : ℕ) → z.cursor.comment ≡ true
    → place ≡ place_of z.file z.cursor.line → WroteBy g (placed 1 place (10 ∷ [])) text text' map map' z.spot → g ≡ wrote.Full n
    → r ≡ ended_at z n z.file z.cursor.at → LeavesBy r fr text text' map map' z
end_full fr z n g r text text' map map' place e p w q t fs es kind limit bs rs cd x ms f o h =
    let ws = placed 1 (place_of z.file z.cursor.line) (10 ∷ []) in
    let H = here_of x limit (bufs text map bs rs fr cd) ms z in
    let w₁ : WroteBy g ws text text' map map' z.spot = subst (λ (p : ℕ). WroteBy g (placed 1 p (10 ∷ [])) text text' map map' z.spot) p w in
    let w₂ : WroteBy (wrote.Full n) ws text text' map map' z.spot = subst (λ (g : Wrote). WroteBy g ws text text' map map' z.spot) q w₁ in
    let b : put_in (room_of (length text) (length map) z.spot) ws ≡ full n = w₂.0 in
    let u : perform H acts.leaves ≡ stop n z.file z.cursor.at nothing = rw (e, b, token-at in_file H.body z.cursor.at) in
    let l : 0 < n = put_number (room_of (length text) (length map) z.spot) ws n b in
    rw (w₂.1, w₂.2) (refuses fs es limit (bufs text map bs rs fr cd) ms z r n z.cursor.at (perform H acts.leaves) t l u h)

-- ---- into a file

include_here : (x : Context) (fs : List ℕ) (es : List (List ℕ)) (kind limit : ℕ) (B : Bufs) (ms : List Macro) (z : Stage) (s : List ℕ) (t : Token) → Fixed x fs es kind B → At fs es s t z
    → IncludeHere (here_of x limit B ms z) fs es s t z.cursor.other z.depth
include_here x fs es kind limit B ms z s t f a =
    record {
      store_is = f.store_is;
      table_is = f.table_is;
      body_is = body_here f a;
      token_is = token_at_here f a;
      other_is = refl;
      depth_is = outer_length B.frames (z.depth - 1);
    }

-- the frame of the file around
abbrev around : Stage → Cursor → List ℕ
around z k = z.file ∷ k.at ∷ k.line ∷ []

around_is : (z : Stage) (s : List ℕ) (e : ℕ) → frame_in (around z (cursor_behind s e z.cursor)) ≡ record { file = z.file; cursor = cursor_behind s e z.cursor }
unfolding cursor_behind
around_is z s e = refl

around_ok : (fs : List ℕ) (es : List (List ℕ)) (z : Stage) (k : Cursor) (b : ℕ) → z.file < length es → Reads (body_of fs es z.file) b k → FrameOk fs es (around z k)
around_ok fs es z k b l r = record { file_in = l; inside = r.inside; line_small = r.line_small }

-- a file's start
open_reads : {x : Context} {fs : List ℕ} {es : List (List ℕ)} {kind : ℕ} {B : Bufs} (f : Fixed x fs es kind B) (i : ℕ) → i < length es → Reads (body_of fs es i) (place_of i 0) opening
open_reads {fs = fs} {es = es} f i l =
    record {
      small = entry-body fs (get_or es i blank_entry) (entries_sound fs es i f.entries l);
      place_small = omega (arith, f.few_entries);
      inside = omega arith;
      line_small = omega arith;
    }

-- the frames with one more
frames_ok : (fs : List ℕ) (es fr : List (List ℕ)) (d : ℕ) (v : List ℕ) → 0 < d → d ≤ length fr → ((k : ℕ) → suc k < d → FrameOk fs es (get_or fr k blank_frame)) → FrameOk fs es v
    → (k : ℕ) → suc k < d + 1 → FrameOk fs es (get_or (set fr (d - 1) v) k blank_frame)
frames_ok fs es fr d v p l o f k h = go (eqb k (d - 1)) refl
  where
    go : (b : Bool) → eqb k (d - 1) ≡ b → FrameOk fs es (get_or (set fr (d - 1) v) k blank_frame)
    go true e = rw (eqb-true k (d - 1) e, get_or-set_same fr (d - 1) v blank_frame (omega arith)) f
    go false e = rw (get_or-set_other fr (d - 1) k v blank_frame (eqb-false k (d - 1) e)) (o k (omega (arith, eqb-false k (d - 1) e)))

pub enter_on : (fs : List ℕ) (es : List (List ℕ)) (s : List ℕ) (t : Token) (fr : List (List ℕ)) (z y r : Stage) (g : Entered) (i e : ℕ)
    → ((h : Here) → IncludeHere h fs es s t z.cursor.other z.depth → EnteredBy g h (include_act h (include_at s t.end)) es z.depth)
    → g ≡ well (i, e) → y ≡ with_cursor z (cursor_behind s e z.cursor) → r ≡ entered_at z i
    → FramesBy (step.On r) fs es s t fr (set fr (z.depth - 1) (z.file ∷ y.cursor.at ∷ y.cursor.line ∷ [])) z
    (λ h. include_act h (include_at s t.end))
enter_on fs es s t fr z y r g i e k q c w kind limit tx mp bs rs cd a x ms f o h =
    let H = here_of x limit (bufs tx mp bs rs fr cd) ms z in
    let u = include_act H (include_at s t.end) in
    let n : Enters H u es z.depth i e = subst (λ (g : Entered). EnteredBy g H u es z.depth) q (k H (include_here x fs es kind limit (bufs tx mp bs rs fr cd) ms z s t f a)) in
    let j : Inside s t.end e = inside_there f a limit ms e o n.ends in
    let v = around z (cursor_behind s e z.cursor) in
    let d : 0 < z.depth = a.open_file in
    let m : z.depth < 16 = n.room in
    let l : 16 ≤ length fr = o.frames_lent in
    let p : 0 < z.depth + 1 = omega arith in
    let b : z.depth + 1 - 1 ≡ z.depth = omega arith in
    let fit : FrameOk fs es v = around_ok fs es z (cursor_behind s e z.cursor) (place_of z.file 0) o.file_in (reads_there a o e j) in
    let frames : open_frames (set fr (z.depth - 1) v) (z.depth + 1) i opening ≡ record { file = i; cursor = opening } ∷ behind H e =
    open_first (set fr (z.depth - 1) v) (z.depth + 1) i opening p
    ∙ ap (λ (fs : List Frame). record { file = i; cursor = opening } ∷ fs)
    (ap (outer_frames (set fr (z.depth - 1) v)) b ∙ outer_put fr z.depth v d (omega arith)
    ∙ ap (λ (f : Frame). f ∷ outer_frames fr (z.depth - 1)) (around_is z s e)
    ∙ ap (λ (b : List ℕ). record { file = z.file; cursor = cursor_behind b e z.cursor } ∷ outer_frames fr (z.depth - 1)) (sym (body_here f a))) in
    rw (w, c) (
      goes x limit tx mp bs bs rs rs fr (set fr (z.depth - 1) v) cd ms ms z (z.depth + 1) i opening z.macros _ (perform H u) (ap (perform H) n.act_is) frames h,
      ok_at tx mp bs bs rs rs fr (set fr (z.depth - 1) v) cd z (z.depth + 1) i opening z.macros o (omega arith) n.entry_in
          (open_reads f i n.entry_in) (frames_ok fs es fr z.depth v d (omega arith) o.outer fit) (rw length-set l) o.few_macros,
    )

pub enter_refused : (fs : List ℕ) (es : List (List ℕ)) (s : List ℕ) (t : Token) (fr : List (List ℕ)) (z : Stage) (r : Step) (g : Entered) (v : Fault)
    → ((h : Here) → IncludeHere h fs es s t z.cursor.other z.depth → EnteredBy g h (include_act h (include_at s t.end)) es z.depth)
    → g ≡ refused v → r ≡ ended_at z v.number z.file v.place
    → FramesBy r fs es s t fr fr z (λ h. include_act h (include_at s t.end))
enter_refused fs es s t fr z r g v k q c kind limit tx mp bs rs cd a x ms f o h =
    let H = here_of x limit (bufs tx mp bs rs fr cd) ms z in
    let u = include_act H (include_at s t.end) in
    let b : EnteredBy (refused v) H u es z.depth =
    subst (λ (g : Entered). EnteredBy g H u es z.depth) q (k H (include_here x fs es kind limit (bufs tx mp bs rs fr cd) ms z s t f a)) in
    refuses fs es limit (bufs tx mp bs rs fr cd) ms z r v.number v.place (perform H u) c b.1 (ap (perform H) b.0) h
