-- In every state of a run each frame's cursor stands in its file, at its line; each map entry is the place of a line of a file.
-- Assumes nothing.
use Prim.Native.Nat.{ℕ, zero, suc, ◌+◌, ◌<◌, ◌≤◌}
use mathlib.Core.Bool.{Bool, true, false, ◌&&◌}
use mathlib.Core.List.{List, [], ◌∷◌}
use mathlib.Core.Path.{◌≡◌, sym, ap, subst}
use native.Mathlib.Omega.{arith}
use lib.Dec.{eqb, leb, ltb}
use lib.ListN.{length}
use borrow.Author.Tests.{ltb-true}
use Rattle.text.specs.Bytes.{part}
use Rattle.lex.specs.Tokens.{in_file, name_of, token_at}
use Rattle.lex.specs.declared.Token.{Token}
use Rattle.lex.proofs.Tests.{by_test, and_left, and_right}
use Rattle.lex.proofs.Progress.{Inside, token-at}
use Rattle.store.specs.Stores.{define, fits}
use Rattle.settings.specs.declared.Settings.{Settings}
use Rattle.writing.specs.Written.{Written, placed}
use Rattle.places.specs.Places.{newlines, line_at}
use Rattle.places.proofs.Lines.{line_first, line_past}
use Rattle.copying.specs.Cursors.{opening, cursor_past, cursor_behind}
use Rattle.handover.specs.Entries.{body_of}
use Rattle.handover.specs.Sizes.{HandOver, Rooms, is_sound}
use Rattle.turns.specs.States.{Context, Frame, State, Made, Turn, more, stop, finished, Here, frames_at, behind, write, place_here}
use Rattle.turns.specs.Acts.{Act}
use Rattle.turns.specs.Usages.{outer_of, usage_end, expand_here}
use Rattle.turns.specs.Performing.{perform}
use Rattle.turns.specs.Turns.{here_at, turn_at}
use Rattle.turns.specs.Through.{Through, start, next}
use Rattle.turns.specs.Runs.{Run, follow, run_for, measure, run_from, context_of, start_of, Outcome, flattened}
use Rattle.turns.proofs.Turning.{by_turn, by_write}
use Rattle.turns.proofs.Inside.{inside_on, token_inside}
use Rattle.turns.specs.Asking.{EndsAt, Asks, to_refuse, to_leave, to_copy, to_skip, to_hide, to_branch, to_define, to_undefine, to_include, to_keep, to_spell, to_expand}
use Rattle.turns.proofs.Asking.{as_inside, usage_ends, act_asks}
use Rattle.turns.specs.Mapping.{InFile, All}
use Rattle.turns.proofs.Places.{Placed, placed_append, placed_map, placed_one, line_in, placed_lines, expand_placed}

-- a frame of a file that there is, its cursor in the file and at the line there
pub record Reads (x : Context) (f : Frame) : Type 0 where
  pub file_in : f.file < length x.table
  pub inside : f.cursor.at ≤ length (body_of x.store x.table f.file)
  pub line_is : f.cursor.line ≡ line_at (body_of x.store x.table f.file) f.cursor.at

unfoldable pub Framed : Context → List Frame → Type 0
Framed x [] = Unit {0}
Framed x (f ∷ fs) = Reads x f × Framed x fs

-- a turn to such frames, which writes bytes with places of lines of files
unfoldable pub Fine : Context → Turn → Type 0
Fine x (more s m) = Framed x s.frames × Placed x m.text
Fine x (stop n f p m) = Placed x m.text
Fine x finished = Unit {0}

line_some : (s : List ℕ) (i : ℕ) → 1 ≤ line_at s i
unfolding line_at
line_some s i = omega arith

reads_opening : (x : Context) (i : ℕ) → i < length x.table → Reads x (record { file = i; cursor = opening })
reads_opening x i h = record { file_in = h; inside = omega arith; line_is = sym (line_first (body_of x.store x.table i)) }

module _ (x : Context) (s : State) (f : Frame) (fs : List Frame) (r : Reads x f) (rs : Framed x fs) where
  abbrev here : Here
  here = here_at x s f fs

  abbrev body : List ℕ
  body = body_of x.store x.table f.file

  abbrev token : Token
  token = token_at in_file body f.cursor.at

  token_in : Inside body f.cursor.at token.end
  token_in = token_inside in_file body f.cursor.at r.inside

  -- from the token's end on
  on_in : (e : ℕ) → EndsAt here e → Inside body f.cursor.at e
  on_in e h = inside_on token_in (as_inside here e h)

  -- ---- the frames behind a token, directive or usage

  framed_behind : (e : ℕ) → Inside body f.cursor.at e → Framed x (behind here e)
  unfolding Framed cursor_behind
  framed_behind e h =
      let n : line_at body e ≡ line_at body f.cursor.at + newlines (part body f.cursor.at e) = line_past body f.cursor.at e h.past h.within in
      (record { file_in = r.file_in; inside = h.within; line_is = omega (arith, r.line_is) }, rs)

  framed_past : (b : Bool) → Framed x (frames_at here (cursor_past body b token f.cursor))
  unfolding Framed cursor_past
  framed_past b =
      let h : Inside body f.cursor.at token.end = token_in in
      let n : line_at body token.end ≡ line_at body f.cursor.at + newlines (part body f.cursor.at token.end) = line_past body f.cursor.at token.end h.past h.within in
      let k : newlines (part body token.at token.end) ≡ newlines (part body f.cursor.at token.end) = ap (λ (i : ℕ). newlines (part body i token.end)) (token-at in_file body f.cursor.at) in
      (record { file_in = r.file_in; inside = h.within; line_is = omega (arith, r.line_is) }, rs)

  -- ---- what is written

  line_last : (e : ℕ) → e ≤ length body → line_at body e ≤ line_at body (length body)
  line_last e h = omega (arith, line_past body e (length body) h (omega arith))

  place_in : InFile x (place_here here)
  place_in = line_in x f.file r.file_in f.cursor.line (omega (arith, r.line_is, line_some body f.cursor.at)) (omega (arith, r.line_is, line_last f.cursor.at r.inside))

  own_placed : (e : ℕ) → Inside body f.cursor.at e → Placed x (placed 1 (place_here here) (part body f.cursor.at e))
  own_placed e h =
      placed_lines x f.file r.file_in (part body f.cursor.at e) f.cursor.line (omega (arith, r.line_is, line_some body f.cursor.at))
      (omega (arith, r.line_is, line_past body f.cursor.at e h.past h.within, line_last e h.within))

  -- ---- the turns

  write_fine : (ws : List Written) (gs : List Frame) (c : Settings) → Framed x gs → Placed x ws → Fine x (write here ws gs c)
  unfolding Fine Placed
  write_fine ws gs c h k = by_write here (Fine x) ws gs c (λ n e. tt) (λ m e. (h, k))

  -- a part from the token's start on
  part_placed : (e : ℕ) → Inside body f.cursor.at e → Placed x (placed 1 (place_here here) (part body token.at e))
  part_placed e h = subst (λ (i : ℕ). Placed x (placed 1 (place_here here) (part body i e))) (sym (token-at in_file body f.cursor.at)) (own_placed e h)

  spelled_placed : (w : List ℕ) → Placed x (placed 0 (place_here here) w)
  spelled_placed w = placed_one x (place_here here) place_in w

  expand_fine : Placed x (expand_here here).text
  expand_fine = expand_placed x (outer_of here) place_in s.left s.macros s.room (name_of body token) body token.end

  act_fine : {a : Act} → Asks here a → Fine x (perform here a)
  unfolding Fine Framed Placed placed
  act_fine (to_refuse w) = tt
  act_fine (to_leave b e) =
      by_test (Fine x) f.cursor.comment (λ q. write_fine (placed 1 (place_here here) (10 ∷ [])) fs s.settings rs (place_in, tt)) (λ q. (rs, tt))
  act_fine (to_copy w t g) = write_fine _ _ s.settings (framed_past true) (own_placed token.end token_in)
  act_fine (to_skip w t) = (framed_past false, tt)
  act_fine (to_hide {e} a t d i) = (framed_behind e (on_in e i), tt)
  act_fine (to_branch {d} {e} {cs} a o i) = (framed_behind e (on_in e i), tt)
  act_fine (to_define {m} {e} a t q i) = by_test (Fine x) (fits x.records x.bytes (define m s.macros)) (λ q. (framed_behind e (on_in e i), tt)) (λ q. tt)
  act_fine (to_undefine {ms} {e} w t l i) = (framed_behind e (on_in e i), tt)
  act_fine (to_include {i} {e} a t n z) = ((reads_opening x i n.entry_in, framed_behind e (on_in e z)), tt)
  act_fine (to_keep {v} {e} d a t k q i) = write_fine _ (behind here e) _ (framed_behind e (on_in e i)) (part_placed e (on_in e i))
  act_fine (to_spell {w} r t k) = write_fine _ (behind here token.end) _ (framed_behind token.end token_in) (spelled_placed w)
  act_fine (to_expand a t) =
      by_test (Fine x) (eqb (expand_here here).stop 0)
      (λ q. (
        framed_behind (usage_end here)
            (on_in (usage_end here) (usage_ends here token_in.within q)),
        expand_fine,
      ))
      (λ q. expand_fine)

module _ (x : Context) where
  pub turn_fine : (s : State) → Framed x s.frames → Fine x (turn_at x s)
  unfolding Fine Placed Framed
  turn_fine s h =
      by_turn x s (Fine x) (λ q k. tt) (λ c cs k. tt)
      (λ f fs q. let g : Framed x (f ∷ fs) = subst (Framed x) q h in act_fine x s f fs g.0 g.1 (act_asks x s f fs))

  -- a turn keeps the frames so
  pub turn_framed : (s s' : State) (m : Made) → turn_at x s ≡ more s' m → Framed x s.frames → Framed x s'.frames
  unfolding Fine
  turn_framed s s' m e h = let t : Fine x (more s' m) = subst (Fine x) e (turn_fine s h) in t.0

pub through_framed : (x : Context) (s s' : State) → Framed x s.frames → Through x s s' → Framed x s'.frames
through_framed x s s' h start = h
through_framed x s s' h (next {s₁} {s₂} {m} t e) = turn_framed x s₁ s' m e (through_framed x s s₁ h t)

module _ (h : HandOver) (r : Rooms) where
  pub start_framed : is_sound h r ≡ true → Framed (context_of h r) (start_of h r).frames
  unfolding Framed is_sound
  start_framed e =
      let a = and_left ((leb 1 (length h.table) && leb (length h.table) 64) && (ltb h.root (length h.table) && (leb h.set 3 && (leb r.text 16777215 && leb r.bytes 65536)))) _ e in
      let b = and_right (leb 1 (length h.table) && leb (length h.table) 64) (ltb h.root (length h.table) && (leb h.set 3 && (leb r.text 16777215 && leb r.bytes 65536))) a in
      let c : ltb h.root (length h.table) ≡ true = and_left (ltb h.root (length h.table)) _ b in
      (reads_opening (context_of h r) h.root (ltb-true h.root (length h.table) c), tt)

  -- in every state of the run
  pub lines_are : is_sound h r ≡ true → (s : State) → Through (context_of h r) (start_of h r) s → Framed (context_of h r) s.frames
  lines_are e s t = through_framed (context_of h r) (start_of h r) s (start_framed e) t

-- ---- all that a run writes

module _ (x : Context) where
  follow_placed : (s : State) (t : Turn) (go : State → Run) → Fine x t → ((s' : State) → Framed x s'.frames → Placed x (go s').text)
      → Placed x (follow s t go).text
  unfolding Fine Placed
  follow_placed s (more s' m) go h g = placed_append x m.text (go s').text h.1 (g s' h.0)
  follow_placed s (stop n f p m) go h g = placed_append x m.text [] h tt
  follow_placed s finished go h g = tt

  pub run_placed : (n : ℕ) (s : State) → Framed x s.frames → Placed x (run_for n x s).text
  unfolding Placed run_for
  run_placed zero s h = tt
  run_placed (suc n) s h = follow_placed s (turn_at x s) (λ s'. run_for n x s') (turn_fine x s h) (λ s'. run_placed n s')

-- each entry of the map is the place of a line of a file
pub map_places : (h : HandOver) (r : Rooms) → All (InFile (context_of h r)) (flattened h r).map
unfolding All flattened run_from
map_places h r =
    let x = context_of h r in
    by_test (λ (o : Outcome). All (InFile x) o.map) (is_sound h r)
    (λ e. placed_map x true (run_from x (start_of h r)).text (run_placed x (measure x (start_of h r).frames) (start_of h r) (start_framed h r e)))
    (λ e. tt)
