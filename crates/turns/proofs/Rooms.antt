-- What is written fits the rooms lent for text and map, and the map has one number for each line of the text.
-- Assumes nothing.
use Prim.Native.Nat.{ℕ, zero, suc, ◌-◌, ◌≤◌}
use mathlib.Core.Bool.{true}
use mathlib.Core.List.{List, [], ◌∷◌, ◌++◌, append-nil}
use mathlib.Core.Path.{◌≡◌, refl, subst}
use native.Mathlib.Nat.{sub-zero}
use native.Mathlib.Omega.{arith}
use lib.Dec.{eqb, ltb}
use lib.ListN.{length, length-append}
use borrow.Author.Tests.{ltb-false}
use Rattle.lex.specs.Tokens.{name_of}
use Rattle.lex.proofs.Tests.{by_test}
use Rattle.definition.specs.Definitions.{Macro}
use Rattle.store.specs.Stores.{define, fits}
use Rattle.settings.specs.declared.Settings.{Settings}
use Rattle.writing.specs.Written.{Written, placed, map_of, fresh_after, Room, Put, full, fitted, put_in}
use Rattle.writing.specs.Buffers.{line_count, lines_in}
use Rattle.writing.proofs.Laws.{text_length, map_length, map_append}
use Rattle.pending.specs.Pending.{Pending, view}
use Rattle.pending.proofs.Viewing.{by_usage}
use Rattle.replace.specs.Replacing.{Got, refused, got, replace}
use Rattle.blocks.specs.Blocks.{Conditional}
use Rattle.handover.specs.Sizes.{HandOver, Rooms, is_sound}
use Rattle.expand.specs.Expanding.{Outer, Expansion, Next, on_got, walk, onward, on_put as puts, writes as printed, first, expand}
use Rattle.turns.specs.States.{Context, Frame, State, Turn, more, stop, finished, Here, write, go_to, refuse_at, room_after}
use Rattle.turns.specs.Acts.{Act, refuses, leaves, copies, skips, hides, branches, defines, undefines, includes, keeps, spells, expands, act_at}
use Rattle.turns.specs.Usages.{after_usage, usage_end, expand_here, outer_of}
use Rattle.turns.specs.Performing.{perform}
use Rattle.turns.specs.Turns.{here_at, turn_at}
use Rattle.turns.proofs.Turning.{by_turn, by_write}
use Rattle.turns.specs.Runs.{Run, Outcome, follow, run_for, measure, run_from, context_of, start_of, flattened}

-- ---- bytes in a room

-- what is written has room
pub record Fits (r : Room) (ws : List Written) : Type 0 where
  pub in_text : length ws ≤ r.bytes
  pub in_map : length (map_of r.fresh ws) ≤ r.lines

pub fits_none : (r : Room) → Fits r []
unfolding map_of
fits_none r = record { in_text = omega arith; in_map = omega arith }

room_same : (r : Room) → r ≡ room_after r []
unfolding map_of fresh_after
room_same r = rw (sub-zero r.bytes, sub-zero r.lines)

pub fits_append : (r : Room) (ws vs : List Written) → Fits r ws → Fits (room_after r ws) vs → Fits r (ws ++ vs)
fits_append r ws vs a b =
    let t : length ws ≤ r.bytes = a.in_text in
    let t' : length vs ≤ r.bytes - length ws = b.in_text in
    let m : length (map_of r.fresh ws) ≤ r.lines = a.in_map in
    let m' : length (map_of (fresh_after r.fresh ws) vs) ≤ r.lines - length (map_of r.fresh ws) = b.in_map in
    record {
      in_text = rw length-append (omega arith);
      in_map = rw (map_append r.fresh ws vs, length-append) (omega arith);
    }

-- what is put has room, and the room behind it is left
PutFits : Room → List Written → Put → Type 0
PutFits r ws (full n) = Unit {0}
PutFits r ws (fitted r') = (r' ≡ room_after r ws) × Fits r ws

put_fits : (r : Room) (ws : List Written) → PutFits r ws (put_in r ws)
unfolding PutFits put_in
put_fits r ws =
    by_test (PutFits r ws) (ltb r.bytes (length ws)) (λ e. tt)
    (λ e. by_test (PutFits r ws) (ltb r.lines (length (map_of r.fresh ws))) (λ d. tt)
    (λ d. (refl, record { in_text = ltb-false _ _ e; in_map = ltb-false _ _ d })))

-- ---- a usage

module _ (r : Room) where
  got_fits : (go : Next) → ((q rest : List Pending) → Fits r (go q rest r).text) → (g : Got) → Fits r (on_got go r g).text
  got_fits go f (refused n i) = fits_none r
  got_fits go f (got q rest) = f q rest

  puts_fits : (ws : List Written) (p : Put) → PutFits r ws p → (go : Room → Expansion) → ((r' : Room) → Fits r' (go r').text) →
      Fits r (puts ws r p go).text
  unfolding PutFits
  puts_fits ws (full n) h go f = fits_none r
  puts_fits ws (fitted r') h go f =
      fits_append r ws (go r').text h.1 (subst (λ (z : Room). Fits z (go r').text) h.0 (f r'))

walk_fits : (go : Next) → ((q rest : List Pending) (r : Room) → Fits r (go q rest r).text) → (o : Outer) (ms : List Macro) (ps : List Pending)
    (r : Room) → Fits r (walk go o ms r ps).text
unfolding walk
walk_fits go f o ms [] r = fits_none r
walk_fits go f o ms (p ∷ ps) r =
    let ws = placed 0 o.place (printed o p) in
    by_usage (λ (e : Expansion). Fits r e.text) (view p)
    (λ z. puts_fits r ws (put_in r ws) (put_fits r ws) (λ r'. walk go o ms r' ps) (λ r'. walk_fits go f o ms ps r'))
    (λ w z. got_fits r go (λ q rest. f q rest r) (replace ms w p.own ps))

onward_fits : (n : ℕ) (o : Outer) (ms : List Macro) (q rest : List Pending) (r : Room) → Fits r (onward n o ms q rest r).text
unfolding onward
onward_fits zero o ms q rest r = fits_none r
onward_fits (suc n) o ms q rest r =
    by_test (λ (e : Expansion). Fits r e.text) (ltb 1024 (length (q ++ rest))) (λ e. fits_none r)
    (λ e. walk_fits (onward n o ms) (onward_fits n o ms) o ms (q ++ rest) r)

-- an expansion fits the room that it is given
pub expand_fits : (n : ℕ) (o : Outer) (ms : List Macro) (r : Room) (w s : List ℕ) (i : ℕ) → Fits r (expand n o ms r w s i).text
unfolding expand
expand_fits n o ms r w s i =
    got_fits r (λ q rest r'. onward n o ms q [] r') (λ q rest. onward_fits n o ms q [] r) (first ms w s i)

-- ---- a turn

-- what a turn writes has room, and the turn goes on with the room behind it
TurnFits : Room → Turn → Type 0
TurnFits r (more s m) = (s.room ≡ room_after r m.text) × Fits r m.text
TurnFits r (stop n f p m) = Fits r m.text
TurnFits r finished = Unit {0}

module _ (h : Here) where
  abbrev Turns : Turn → Type 0
  Turns t = TurnFits h.state.room t

  refuse_fits : (n p : ℕ) → Turns (refuse_at h n p)
  unfolding TurnFits
  refuse_fits n p = fits_none h.state.room

  go_fits : (fs : List Frame) (cs : List Conditional) (ms : List Macro) → Turns (go_to h fs cs ms)
  unfolding TurnFits map_of fresh_after
  go_fits fs cs ms = (room_same h.state.room, fits_none h.state.room)

  write_fits : (ws : List Written) (fs : List Frame) (c : Settings) → Turns (write h ws fs c)
  unfolding TurnFits PutFits
  write_fits ws fs c =
      by_write h Turns ws fs c (λ n e. refuse_fits n h.token.at)
      (λ r e. subst (PutFits h.state.room ws) e (put_fits h.state.room ws))

  after_fits : (next : ℕ) (e : Expansion) → Fits h.state.room e.text → Turns (after_usage h next e)
  unfolding TurnFits
  after_fits next e f = by_test Turns (eqb e.stop 0) (λ q. (refl, f)) (λ q. f)

  act_fits : (a : Act) → Turns (perform h a)
  act_fits (refuses n p) = refuse_fits n p
  act_fits leaves = by_test Turns h.frame.cursor.comment (λ e. write_fits _ _ _) (λ e. go_fits _ _ _)
  act_fits copies = write_fits _ _ _
  act_fits skips = go_fits _ _ _
  act_fits (hides e) = go_fits _ _ _
  act_fits (branches cs e) = go_fits _ _ _
  act_fits (defines m e) =
      by_test Turns (fits h.context.records h.context.bytes (define m h.state.macros)) (λ q. go_fits _ _ _) (λ q. refuse_fits _ _)
  act_fits (undefines ms e) = go_fits _ _ _
  act_fits (includes i e) = go_fits _ _ _
  act_fits (keeps v e) = write_fits _ _ _
  act_fits (spells w) = write_fits _ _ _
  act_fits expands =
      after_fits (usage_end h) (expand_here h)
      (expand_fits h.state.left (outer_of h) h.state.macros h.state.room (name_of h.body h.token) h.body h.token.end)

turn_fits : (x : Context) (s : State) → TurnFits s.room (turn_at x s)
unfolding TurnFits
turn_fits x s =
    by_turn x s (TurnFits s.room) (λ q k. tt) (λ c cs k. fits_none s.room) (λ f fs q. let h = here_at x s f fs in act_fits h (act_at h))

-- ---- a run

follow_fits : (s : State) (t : Turn) (go : State → Run) → TurnFits s.room t → ((s' : State) → Fits s'.room (go s').text) →
    Fits s.room (follow s t go).text
unfolding TurnFits
follow_fits s (more s' m) go h f =
    fits_append s.room m.text (go s').text h.1 (subst (λ (z : Room). Fits z (go s').text) h.0 (f s'))
follow_fits s (stop n i p m) go h f = rw (append-nil m.text) h
follow_fits s finished go h f = fits_none s.room

pub run_fits : (n : ℕ) (x : Context) (s : State) → Fits s.room (run_for n x s).text
unfolding run_for
run_fits zero x s = fits_none s.room
run_fits (suc n) x s = follow_fits s (turn_at x s) (λ s'. run_for n x s') (turn_fits x s) (λ s'. run_fits n x s')

-- ---- a hand-over

flat_fits : (h : HandOver) (r : Rooms) → Fits (start_of h r).room (run_from (context_of h r) (start_of h r)).text
unfolding run_from
flat_fits h r = run_fits (measure (context_of h r) (start_of h r).frames) (context_of h r) (start_of h r)

-- the text is not longer than its room
pub text_fits : (h : HandOver) (r : Rooms) → length (flattened h r).text ≤ r.text
unfolding flattened
text_fits h r =
    by_test (λ (o : Outcome). length o.text ≤ r.text) (is_sound h r) (λ e. rw text_length (flat_fits h r).in_text) (λ e. omega arith)

-- nor is the map
pub map_fits : (h : HandOver) (r : Rooms) → length (flattened h r).map ≤ r.map
unfolding flattened
map_fits h r = by_test (λ (o : Outcome). length o.map ≤ r.map) (is_sound h r) (λ e. (flat_fits h r).in_map) (λ e. omega arith)

-- ---- lines

-- the map has one number for each line of the text
pub map_lines : (h : HandOver) (r : Rooms) → length (flattened h r).map ≡ lines_in (flattened h r).text
unfolding flattened line_count
map_lines h r =
    by_test (λ (o : Outcome). length o.map ≡ lines_in o.text) (is_sound h r)
    (λ e. map_length true (run_from (context_of h r) (start_of h r)).text) (λ e. refl)
