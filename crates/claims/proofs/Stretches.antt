-- Each turn of a run takes a stretch of the innermost file, leaves it at its end, or is refused.
-- Assumes nothing.
use Prim.Native.Nat.{ℕ, ◌≤◌}
use mathlib.Core.Bool.{Bool, true, false}
use mathlib.Core.List.{List, [], ◌∷◌}
use mathlib.Core.Path.{◌≡◌, refl, sym}
use native.Mathlib.Omega.{arith}
use lib.Dec.{eqb, leb}
use lib.ListN.{length}
use borrow.Author.Tests.{leb-true, leb-false}
use Rattle.lex.specs.Tokens.{in_file, End, is}
use Rattle.lex.proofs.Tests.{by_test, true_false}
use Rattle.lex.proofs.Progress.{token_some}
use Rattle.store.specs.Stores.{define, fits}
use Rattle.settings.specs.declared.Settings.{Settings}
use Rattle.definition.specs.Definitions.{Macro}
use Rattle.writing.specs.Written.{Written, text_of}
use Rattle.writing.proofs.Laws.{text_placed}
use Rattle.blocks.specs.Blocks.{Conditional}
use Rattle.copying.specs.Cursors.{opening, cursor_past, cursor_behind}
use Rattle.turns.specs.States.{Context, Frame, State, Made, Turn, more, stop, finished, Here, frames_at, go_to, write}
use Rattle.turns.specs.States as states
use Rattle.turns.specs.Acts.{Act, leaves, act_at}
use Rattle.turns.specs.Asking.{Reading, EndsAt, Asks, to_refuse, to_leave, to_copy, to_skip, to_hide, to_branch, to_define, to_undefine, to_include, to_keep, to_spell, to_expand}
use Rattle.turns.specs.Usages.{usage_end, expand_here}
use Rattle.turns.specs.Performing.{perform}
use Rattle.turns.specs.Turns.{here_at, turn_at}
use Rattle.turns.proofs.Turning.{by_turn, by_write}
use Rattle.turns.proofs.Asking.{word_ends, usage_ends, act_asks}
use Rattle.turns.specs.Files.{file_of}
use Rattle.claims.specs.Stretches.{taken_to, written_by, open_file, OpenFile, Acted, Behind, on, into, Stretch, Leaving}
use Rattle.claims.specs.NothingDropped.{Begun, nothing, begun}

-- what the turn of s that goes on to s' and writes w does
pub data Step (x : Context) (s s' : State) (w : List ℕ) : Type 0 where
  takes : {i : OpenFile} {a b : ℕ} → Stretch x i a b s s' w → Step x s s' w
  departs : {i : OpenFile} → Leaving x i s s' w → Step x s s' w

-- .. if t is the turn of s
unfoldable pub Does : Context → State → Turn → Type 0
Does x s (more s' m) = turn_at x s ≡ more s' m → Step x s s' (text_of m.text)
Does x s (stop n f p m) = Begun x s (text_of m.text)
Does x s finished = (s.frames ≡ []) × (s.conds ≡ [])

module _ (x : Context) (s : State) (f : Frame) (fs : List Frame) (q : s.frames ≡ f ∷ fs) (l : f.cursor.at ≤ length (file_of x f.file)) where
  abbrev here : Here
  here = here_at x s f fs

  -- a is the act here
  module _ {a : Act} (w : Asks here a) (p : act_at here ≡ a) where
    abbrev acted : (s' : State) (m : Made) → written_by here a ≡ text_of m.text → turn_at x s ≡ more s' m → Acted x (open_file f fs) s s' (text_of m.text)
    acted s' m v g = record { frame = f; frames_are = q; file_is = refl; act = a; act_is = p; why = w; made = m; goes = g; made_is = refl; written = v }

    taken-to : Reading here → {b : ℕ} → taken_to here a ≡ b → EndsAt here b → (s' : State) (m : Made) → Behind (open_file f fs) b s'.frames
        → written_by here a ≡ text_of m.text → turn_at x s ≡ more s' m → Step x s s' (text_of m.text)
    taken-to r {b} e i s' m o v g =
        takes (record { acted = acted s' m v g; from = refl; to = e; some_bytes = omega (arith, r.past, i.past); inside = i.within; behind = o })

    -- what writes
    write_does : Reading here → {b : ℕ} → taken_to here a ≡ b → EndsAt here b → (ws : List Written) (gs : List Frame) (c : Settings)
        → Behind (open_file f fs) b gs → written_by here a ≡ text_of ws → Does x s (write here ws gs c)
    unfolding Does text_of
    write_does r e i ws gs c o v =
        by_write here (Does x s) ws gs c (λ n k. nothing) (λ m k. λ g. taken-to r e i _ (states.writes ws) o v g)

    -- what writes nothing
    go_does : Reading here → {b : ℕ} → taken_to here a ≡ b → EndsAt here b → (gs : List Frame) (cs : List Conditional) (ms : List Macro)
        → Behind (open_file f fs) b gs → written_by here a ≡ [] → Does x s (go_to here gs cs ms)
    unfolding Does text_of
    go_does r e i gs cs ms o v = λ g. taken-to r e i _ states.nothing o v g

  -- the frames behind a token or directive
  past_on : (b : Bool) → Behind (open_file f fs) here.token.end (frames_at here (cursor_past here.body b here.token f.cursor))
  unfolding cursor_past
  past_on b = on (cursor_past here.body b here.token f.cursor) refl

  behind_on : (e : ℕ) → Behind (open_file f fs) e (states.behind here e)
  unfolding cursor_behind
  behind_on e = on (cursor_behind here.body e f.cursor) refl

  behind_into : (i e : ℕ) → Behind (open_file f fs) e (record { file = i; cursor = opening } ∷ states.behind here e)
  unfolding cursor_behind
  behind_into i e = into i (cursor_behind here.body e f.cursor) refl

  -- the file's end
  end_length : is End here.token ≡ true → f.cursor.at ≡ length (file_of x f.file)
  end_length e = go (leb (length (file_of x f.file)) f.cursor.at) refl
    where
      go : (b : Bool) → leb (length (file_of x f.file)) f.cursor.at ≡ b → f.cursor.at ≡ length (file_of x f.file)
      go true z = omega (arith, leb-true (length (file_of x f.file)) f.cursor.at z, l)
      go false z =
          true_false (is End here.token) e
          (token_some in_file (file_of x f.file) f.cursor.at (leb-false (length (file_of x f.file)) f.cursor.at z))

  leave_to : (w : Asks here leaves) → act_at here ≡ leaves → is End here.token ≡ true → (s' : State) (m : Made) → s'.frames ≡ fs
      → written_by here leaves ≡ text_of m.text → turn_at x s ≡ more s' m → Step x s s' (text_of m.text)
  leave_to w p e s' m o v g = departs (record { acted = acted w p s' m v g; act_is = refl; at_end = end_length e; behind = o })

  leave_does : (w : Asks here leaves) → act_at here ≡ leaves → is End here.token ≡ true → (ws : List Written)
      → written_by here leaves ≡ text_of ws → Does x s (write here ws fs s.settings)
  unfolding Does text_of
  leave_does w p e ws v =
      by_write here (Does x s) ws fs s.settings (λ n k. nothing) (λ m k. λ g. leave_to w p e _ (states.writes ws) refl v g)

  act_does : {a : Act} → Asks here a → act_at here ≡ a → Does x s (perform here a)
  unfolding Does text_of
  act_does (to_refuse w) p = nothing
  act_does (to_leave b e) p =
      by_test (Does x s) f.cursor.comment (λ c. leave_does (to_leave b e) p e _ (rw c (sym (text_placed 1 _ (10 ∷ [])))))
      (λ c. λ g. leave_to (to_leave b e) p e _ states.nothing refl (rw c) g)
  act_does (to_copy r t g) p = write_does (to_copy r t g) p r refl (word_ends here r) _ _ _ (past_on true) (sym (text_placed 1 _ _))
  act_does (to_skip r t) p = go_does (to_skip r t) p r refl (word_ends here r) _ _ _ (past_on false) refl
  act_does (to_hide {e} a t d i) p = go_does (to_hide a t d i) p a.reading refl i _ _ _ (behind_on e) refl
  act_does (to_branch {d} {e} {cs} a o i) p = go_does (to_branch a o i) p a.reading refl i _ _ _ (behind_on e) refl
  act_does (to_define {m} {e} a t d i) p =
      by_test (Does x s) (fits x.records x.bytes (define m s.macros))
      (λ k. go_does (to_define a t d i) p a.reading refl i _ _ _ (behind_on e) refl) (λ k. nothing)
  act_does (to_undefine {ms} {e} r t d i) p = go_does (to_undefine r t d i) p r refl i _ _ _ (behind_on e) refl
  act_does (to_include {i} {e} a t n z) p = go_does (to_include a t n z) p a.reading refl z _ _ _ (behind_into i e) refl
  act_does (to_keep {v} {e} d a t k o i) p = write_does (to_keep d a t k o i) p a.reading refl i _ _ _ (behind_on e) (sym (text_placed 1 _ _))
  act_does (to_spell {w} r t k) p = write_does (to_spell r t k) p r refl (word_ends here r) _ _ _ (behind_on here.token.end) (sym (text_placed 0 _ w))
  act_does (to_expand a t) p =
      by_test (Does x s) (eqb (expand_here here).stop 0)
      (λ k. λ g. taken-to (to_expand a t) p a.reading refl (usage_ends here a.reading.within k) _ _ (behind_on (usage_end here)) refl g)
      (λ k. begun q p)

-- the turn of a state whose innermost cursor stands in its file
pub turn_does : (x : Context) (s : State) → ((f : Frame) (fs : List Frame) → s.frames ≡ f ∷ fs → f.cursor.at ≤ length (file_of x f.file))
    → Does x s (turn_at x s)
unfolding Does text_of
turn_does x s l =
    by_turn x s (Does x s) (λ q e. (q, e)) (λ c cs e. nothing) (λ f fs q. act_does x s f fs q (l f fs q) (act_asks x s f fs) refl)
