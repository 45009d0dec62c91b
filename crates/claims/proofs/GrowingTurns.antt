-- A turn in a larger room is the same, or the smaller lacks room and what it wrote is a front of what the other wrote.
-- Assumes nothing.
use Prim.Native.Nat.{ℕ, ◌-◌}
use mathlib.Core.Bool.{Bool, true, false}
use mathlib.Core.List.{List, [], ◌∷◌}
use mathlib.Core.Path.{◌≡◌, refl, sym, ap, subst}
use lib.Dec.{eqb}
use borrow.Author.Tests.{eqb-true}
use Rattle.lex.specs.Tokens.{name_of}
use Rattle.lex.proofs.Tests.{by_test, true_false}
use Rattle.definition.specs.Definitions.{Macro}
use Rattle.store.specs.Stores.{define, fits}
use Rattle.settings.specs.declared.Settings.{Settings}
use Rattle.writing.specs.Written.{Written, Room, Put, put_in}
use Rattle.blocks.specs.Blocks.{Conditional}
use Rattle.expand.specs.Expanding.{Expansion}
use Rattle.turns.specs.States.{Context, Frame, State, Made, Turn, more, stop, finished, Here, behind, on_put, write, go_to, refuse_at, room_after}
use Rattle.turns.specs.Acts.{Act, refuses, leaves, copies, skips, hides, branches, defines, undefines, includes, keeps, spells, expands, act_at}
use Rattle.turns.specs.Usages.{after_usage, usage_end, expand_here, outer_of}
use Rattle.turns.specs.Performing.{perform}
use Rattle.turns.specs.Turns.{token_turn, last_turn, here_at, frame_turn, turn_at}
use Rattle.turns.proofs.Acts.{act_same}
use Rattle.claims.specs.Growing.{wants_room, Front}
use Rattle.claims.proofs.GrowingUsages.{both_by, Wider, after_wider, PutsGrow, fits as both-fit, lacks, put_grows, front_none, ExpansionGrows, leaving, expand_grows}

-- the state s with the room r
abbrev pub in_room : Room → State → State
in_room r s =
    record {
      frames = s.frames;
      conds = s.conds;
      macros = s.macros;
      settings = s.settings;
      room = r;
      left = s.left;
    }

-- what a turn writes
abbrev pub text_by : Turn → List Written
text_by (more s m) = m.text
text_by (stop n f p m) = m.text
text_by finished = []

-- a turn in a room, and in a larger one: the same; or the smaller is refused for room, a front of the other written
pub data TurnsGrow : Turn → Turn → Type 0 where
  both_go : (s : State) (r r' : Room) (m : Made) → Wider r r' → TurnsGrow (more (in_room r s) m) (more (in_room r' s) m)
  both_stop : (n f p : ℕ) (m : Made) → TurnsGrow (stop n f p m) (stop n f p m)
  both_end : TurnsGrow finished finished
  lacks_room : (n f p : ℕ) (m : Made) (t : Turn) → wants_room n ≡ true → Front m.text (text_by t) → TurnsGrow (stop n f p m) t

-- 19 and 20 are refusals
room_some : (n : ℕ) → wants_room n ≡ true → eqb n 0 ≡ false
room_some n e = go (eqb n 0) refl
  where
    go : (b : Bool) → eqb n 0 ≡ b → eqb n 0 ≡ false
    go true q = true_false (wants_room n) e (ap wants_room (eqb-true n 0 q))
    go false q = q

module _ (h : Here) (r r' : Room) (w : Wider r r') where
  abbrev here_in : Room → Here
  here_in q =
      record { context = h.context; state = in_room q h.state; frame = h.frame; others = h.others; body = h.body; token = h.token }

  abbrev small : Here
  small = here_in r

  abbrev large : Here
  large = here_in r'

  refuse_grows : (n p : ℕ) → TurnsGrow (refuse_at small n p) (refuse_at large n p)
  refuse_grows n p = both_stop _ _ _ _

  go_grows : (fs : List Frame) (cs : List Conditional) (ms : List Macro) → TurnsGrow (go_to small fs cs ms) (go_to large fs cs ms)
  go_grows fs cs ms =
      both_go (record { frames = fs; conds = cs; macros = ms; settings = h.state.settings; room = r; left = h.state.left }) r r' _ w

  put_turns : (ws : List Written) (fs : List Frame) (c : Settings) (p p' : Put) → PutsGrow p p'
      → TurnsGrow (on_put small ws fs c p) (on_put large ws fs c p')
  put_turns ws fs c p p' (both-fit q q' v) =
      both_go (record { frames = fs; conds = h.state.conds; macros = h.state.macros; settings = c; room = q; left = h.state.left }) q q' _ v
  put_turns ws fs c p p' (lacks n q e) = lacks_room n _ _ _ (on_put large ws fs c q) e (front_none (text_by (on_put large ws fs c q)))

  write_grows : (ws : List Written) (fs : List Frame) (c : Settings) → TurnsGrow (write small ws fs c) (write large ws fs c)
  write_grows ws fs c = put_turns ws fs c (put_in r ws) (put_in r' ws) (put_grows r r' ws w)

  -- what a turn behind a usage writes
  usage_writes : (next : ℕ) (e : Expansion) → text_by (after_usage large next e) ≡ e.text
  usage_writes next e = by_test (λ (t : Turn). text_by t ≡ e.text) (eqb e.stop 0) (λ q. refl) (λ q. refl)

  -- the usage has room in both
  after_same : (next : ℕ) (e : Expansion) (q : Room) → TurnsGrow (after_usage small next e) (after_usage large next (leaving q e))
  after_same next e q =
      both_by TurnsGrow (eqb e.stop 0)
      (λ z. both_go
      (record {
        frames = behind h next;
        conds = h.state.conds;
        macros = h.state.macros;
        settings = h.state.settings;
        room = r;
        left = h.state.left - e.count;
      })
      (room_after r e.text) (room_after r' e.text) _ (after_wider r r' e.text w))
      (λ z. both_stop _ _ _ _)

  after_grows : (next : ℕ) (e e' : Expansion) → ExpansionGrows e e' → TurnsGrow (after_usage small next e) (after_usage large next e')
  after_grows next e e' g = go (wants_room e.stop) refl
    where
      go : (k : Bool) → wants_room e.stop ≡ k → TurnsGrow (after_usage small next e) (after_usage large next e')
      go true q =
          by_test (λ (t : Turn). TurnsGrow t (after_usage large next e')) (eqb e.stop 0) (λ z. true_false (eqb e.stop 0) z (room_some e.stop q))
          (λ z. lacks_room _ _ _ _ (after_usage large next e') q
          (subst (λ (l : List Written). Front e.text l) (sym (usage_writes next e')) g.text_front))
      go false q =
          subst (λ (x : Expansion). TurnsGrow (after_usage small next e) (after_usage large next x)) (sym (g.alike q)) (after_same next e e'.room)

  act_grows : (a : Act) → TurnsGrow (perform small a) (perform large a)
  act_grows (refuses n p) = refuse_grows n p
  act_grows leaves = both_by TurnsGrow h.frame.cursor.comment (λ e. write_grows _ _ _) (λ e. go_grows _ _ _)
  act_grows copies = write_grows _ _ _
  act_grows skips = go_grows _ _ _
  act_grows (hides e) = go_grows _ _ _
  act_grows (branches cs e) = go_grows _ _ _
  act_grows (defines m e) =
      both_by TurnsGrow (fits h.context.records h.context.bytes (define m h.state.macros)) (λ q. go_grows _ _ _) (λ q. refuse_grows _ _)
  act_grows (undefines ms e) = go_grows _ _ _
  act_grows (includes i e) = go_grows _ _ _
  act_grows (keeps v e) = write_grows _ _ _
  act_grows (spells u) = write_grows _ _ _
  act_grows expands =
      after_grows (usage_end h) (expand_here small) (expand_here large)
      (expand_grows h.state.left (outer_of h) h.state.macros r r' (name_of h.body h.token) h.body h.token.end w)

  token_grows : TurnsGrow (token_turn small) (token_turn large)
  token_grows =
      let x = h.context in
      rw (act_same h r x.records x.bytes, act_same h r' x.records x.bytes) (act_grows (act_at h))

last_grows : (cs : List Conditional) → TurnsGrow (last_turn cs) (last_turn cs)
last_grows [] = both_end
last_grows (c ∷ cs) = both_stop _ _ _ _

frame_grows : (x : Context) (s : State) (r r' : Room) (fs : List Frame) → Wider r r'
    → TurnsGrow (frame_turn x (in_room r s) fs) (frame_turn x (in_room r' s) fs)
frame_grows x s r r' [] w = last_grows s.conds
frame_grows x s r r' (f ∷ fs) w = token_grows (here_at x s f fs) r r' w

-- one turn of the run, in two rooms
pub turn_grows : (x : Context) (s : State) (r r' : Room) → Wider r r' → TurnsGrow (turn_at x (in_room r s)) (turn_at x (in_room r' s))
unfolding turn_at
turn_grows x s r r' w = frame_grows x s r r' s.frames w
