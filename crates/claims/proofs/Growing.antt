-- With larger rooms for text and map what is written only grows, and an outcome that is no refusal for room is the same.
-- Assumes nothing.
use Prim.Native.Nat.{ℕ, zero, suc}
use mathlib.Core.Bool.{true, false}
use mathlib.Core.List.{List, [], append-nil}
use mathlib.Core.Path.{◌≡◌, refl, sym, ap, subst, ◌∙◌}
use native.Mathlib.Omega.{arith}
use lib.ListN.{length}
use borrow.Author.Tests.{le-leb, lt-ltb}
use Rattle.lex.proofs.Tests.{true_false}
use Rattle.writing.specs.Written.{Written, text_of, map_of, fresh_after, Room}
use Rattle.writing.proofs.Laws.{text_append, map_append}
use Rattle.handover.specs.Sizes.{HandOver, Rooms, is_sound}
use Rattle.handover.proofs.Laws.{sound_facts}
use Rattle.turns.specs.States.{Context, State, Turn, more, stop, finished}
use Rattle.turns.specs.Turns.{turn_at}
use Rattle.turns.specs.Runs.{Run, Outcome, ends, onto, follow, run_for, measure, run_from, context_of, start_of, outcome_of, flattened}
use Rattle.claims.specs.Growing.{Larger, wants_room, Grows, Front}
use Rattle.claims.proofs.GrowingUsages.{Wider, front_same, front_behind, front_on}
use Rattle.turns.proofs.Taken.{taken}
use Rattle.claims.proofs.GrowingTurns.{in_room, text_by, TurnsGrow, both_go, both_stop, both_end, lacks_room, turn_grows}

-- ---- a run

-- what g writes is a front of what the other writes; where g does not lack room they are the same
pub record RunGrows (g g' : Run) : Type 0 where
  pub text_front : Front g.text g'.text
  pub run_same : wants_room g.number ≡ false → g' ≡ g

same_grows : (g : Run) → RunGrows g g
same_grows g = record { text_front = front_same g.text; run_same = λ z. refl }

-- a run writes what its first turn writes, and more
follow_front : (s : State) (ws : List Written) (t : Turn) (go : State → Run) → Front ws (text_by t) → Front ws (follow s t go).text
follow_front s ws (more s' m) go f = front_on ws m.text (go s').text f
follow_front s ws (stop n i p m) go f = front_on ws m.text [] f
follow_front s ws finished go f = f

follow_grows : (s : State) (r r' : Room) (go : State → Run) (t t' : Turn) → TurnsGrow t t'
    → ((z : State) (q q' : Room) → Wider q q' → RunGrows (go (in_room q z)) (go (in_room q' z)))
    → RunGrows (follow (in_room r s) t go) (follow (in_room r' s) t' go)
follow_grows s r r' go t t' (both_go z q q' m w) f =
    let g : RunGrows (go (in_room q z)) (go (in_room q' z)) = f z q q' w in
    record {
      text_front = front_behind m.text (go (in_room q z)).text (go (in_room q' z)).text g.text_front;
      run_same = λ k. ap (onto m) (g.run_same k);
    }
follow_grows s r r' go t t' (both_stop n i p m) f = same_grows (onto m (ends s n i p))
follow_grows s r r' go t t' both_end f = same_grows (ends s 0 0 0)
follow_grows s r r' go t t' (lacks_room n i p m u e k) f =
    record {
      text_front = subst (λ (l : List Written). Front l (follow (in_room r' s) u go).text) (sym (append-nil m.text)) (follow_front (in_room r' s) m.text u go k);
      run_same = λ z. true_false (wants_room n) e z;
    }

pub run_grows : (n : ℕ) (x : Context) (s : State) (r r' : Room) → Wider r r' → RunGrows (run_for n x (in_room r s)) (run_for n x (in_room r' s))
unfolding run_for
run_grows zero x s r r' w = same_grows (ends s 0 0 0)
run_grows (suc n) x s r r' w =
    follow_grows s r r' (λ z. run_for n x z) (turn_at x (in_room r s)) (turn_at x (in_room r' s)) (turn_grows x s r r' w)
    (λ z q q' v. run_grows n x z q q' v)

-- ---- a hand-over

outcome_grows : (x : Context) (g g' : Run) → RunGrows g g' → Grows (outcome_of x g) (outcome_of x g')
outcome_grows x g g' k =
    let f : Front g.text g'.text = k.text_front in
    record {
      more = text_of f.rest;
      text_more = ap text_of f.front_is ∙ text_append g.text f.rest;
      lines = map_of (fresh_after true g.text) f.rest;
      map_more = ap (map_of true) f.front_is ∙ map_append true g.text f.rest;
      same = λ z. ap (outcome_of x) (k.run_same z);
    }

module _ (h : HandOver) (r r' : Rooms) (l : Larger r r') where
  -- the rooms for macros are the same
  context_same : context_of h r' ≡ context_of h r
  context_same = rw (l.records_same, l.bytes_same)

  -- a room for text that is not larger is sound too
  smaller_sound : is_sound h r' ≡ true → is_sound h r ≡ true
  unfolding is_sound
  smaller_sound e =
      let f = sound_facts h r' e in
      let n = length h.table in
      rw (l.records_same, l.bytes_same, le-leb 1 n f.some, le-leb n 64 f.few, lt-ltb h.root n f.root_in, le-leb h.set 3 f.set_known, le-leb r.text 16777215 (omega (arith, f.text_small, l.text_larger)), le-leb r'.bytes 65536 f.bytes_small, f.entries, f.starts_fit)

  larger_runs : RunGrows (run_from (context_of h r) (start_of h r)) (run_from (context_of h r) (start_of h r'))
  unfolding run_from
  larger_runs =
      run_grows (measure (context_of h r) (start_of h r).frames) (context_of h r) (start_of h r) (start_of h r).room (start_of h r').room
      (record { bytes_le = l.text_larger; lines_le = l.map_larger; fresh_is = refl })

  -- the outcome of a hand-over, in larger rooms
  pub larger_grows : is_sound h r' ≡ true → Grows (flattened h r) (flattened h r')
  larger_grows e =
      let x = context_of h r in
      let a : flattened h r ≡ outcome_of x (run_from x (start_of h r)) = taken h r (smaller_sound e) in
      let b : flattened h r' ≡ outcome_of x (run_from x (start_of h r')) =
      taken h r' e ∙ ap (λ (y : Context). outcome_of y (run_from y (start_of h r'))) context_same in
      subst (λ (o : Outcome). Grows o (flattened h r')) (sym a)
      (subst (λ (o : Outcome). Grows (outcome_of x (run_from x (start_of h r))) o) (sym b)
      (outcome_grows x (run_from x (start_of h r)) (run_from x (start_of h r')) larger_runs))
