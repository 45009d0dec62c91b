-- As more than 256 macros never fit, a flattening with more than 256 records lent is that with 256.
-- Assumes nothing.
use Prim.Native.Nat.{ℕ, zero, suc, ◌≤◌}
use mathlib.Core.Bool.{Bool, true, false, cond, ◌&&◌}
use mathlib.Core.List.{List, [], ◌∷◌}
use mathlib.Core.Path.{◌≡◌, refl, ◌∙◌, ap}
use native.Mathlib.Omega.{arith}
use lib.Dec.{leb, ltb}
use lib.ListN.{length}
use borrow.Author.Tests.{leb-true, leb-false, ltb-true, ltb-false, le-leb, lt-leb}
use Rattle.definition.specs.Definitions.{Macro}
use Rattle.store.specs.Stores.{encode, define, fits}
use Rattle.macros.specs.Starting.{starts_fit, started}
use Rattle.settings.specs.declared.Settings.{Settings}
use Rattle.writing.specs.Written.{Written, Put, full, fitted, put_in}
use Rattle.handover.specs.Sizes.{HandOver, Rooms, is_sound}
use Rattle.turns.specs.States.{Context, Frame, State, Turn, more, stop, finished, Here, behind, go_to, refuse, on_put, write}
use Rattle.turns.specs.Acts.{Act, refuses, leaves, copies, skips, hides, branches, defines, undefines, includes, keeps, spells, expands, act_at}
use Rattle.turns.specs.Performing.{perform}
use Rattle.turns.specs.Turns.{token_turn, here_at, frame_turn, turn_at}
use Rattle.turns.specs.Runs.{Run, onto, follow, run_for, measure, run_from, context_of, start_of, outcome_of, not_taken, ran_over, flattened}
use Rattle.turns.proofs.Acts.{act_same}
use Rattle.records.specs.Rows.{few}

pub few_least : (n : ℕ) → few n ≤ n
few_least n = go (ltb n 256) refl
  where
    go : (b : Bool) → ltb n 256 ≡ b → cond b n 256 ≤ n
    go true e = omega arith
    go false e = ltb-false n 256 e

pub few_most : (n : ℕ) → few n ≤ 256
few_most n = go (ltb n 256) refl
  where
    go : (b : Bool) → ltb n 256 ≡ b → cond b n 256 ≤ 256
    go true e = let l : n ≤ 256 = omega (arith, ltb-true n 256 e) in l
    go false e = omega arith

-- what is at most n and at most 256 is at most both's least
pub few_above : (k n : ℕ) → k ≤ n → k ≤ 256 → k ≤ few n
few_above k n l m = go (ltb n 256)
  where
    go : (b : Bool) → k ≤ cond b n 256
    go true = l
    go false = m

fits_few : (n b : ℕ) (ms : List Macro) → fits (few n) b ms ≡ fits n b ms
unfolding fits
fits_few n b ms = go (leb (length ms) 256) refl
  where
    within : (c : Bool) → length ms ≤ 256 → leb (length ms) n ≡ c → leb (length ms) (few n) ≡ c
    within true l e = le-leb (length ms) (few n) (few_above (length ms) n (leb-true (length ms) n e) l)
    within false l e = lt-leb (length ms) (few n) (omega (arith, leb-false (length ms) n e, few_least n))

    go : (c : Bool) → leb (length ms) 256 ≡ c
        → (c && (leb (length ms) (few n) && leb (length (encode ms)) b)) ≡ (c && (leb (length ms) n && leb (length (encode ms)) b))
    go true e = ap (λ (d : Bool). d && leb (length (encode ms)) b) (within (leb (length ms) n) (leb-true (length ms) 256 e) refl)
    go false e = refl

-- the context x with 256 records at most
abbrev few_in : Context → Context
few_in x = record { store = x.store; table = x.table; set = x.set; records = few x.records; bytes = x.bytes }

module _ (h : Here) where
  abbrev thin : Here
  thin =
      record { context = few_in h.context; state = h.state; frame = h.frame; others = h.others; body = h.body; token = h.token }

  put_few : (ws : List Written) (fs : List Frame) (c : Settings) (p : Put) → on_put thin ws fs c p ≡ on_put h ws fs c p
  put_few ws fs c (full n) = refl
  put_few ws fs c (fitted r) = refl

  write_few : (ws : List Written) (fs : List Frame) (c : Settings) → write thin ws fs c ≡ write h ws fs c
  write_few ws fs c = put_few ws fs c (put_in h.state.room ws)

  leave_few : (b : Bool) (u : Turn) {t t' : Turn} → t ≡ t' → cond b t u ≡ cond b t' u
  leave_few true u e = e
  leave_few false u e = refl

  act_few : (a : Act) → perform thin a ≡ perform h a
  act_few (refuses n p) = refl
  act_few leaves = leave_few h.frame.cursor.comment _ (write_few _ _ _)
  act_few copies = write_few _ _ _
  act_few skips = refl
  act_few (hides e) = refl
  act_few (branches cs e) = refl
  act_few (defines m e) =
      let ms = define m h.state.macros in
      ap (λ (b : Bool). cond b (go_to h (behind h e) h.state.conds ms) (refuse h 12)) (fits_few h.context.records h.context.bytes ms)
  act_few (undefines ms e) = refl
  act_few (includes i e) = refl
  act_few (keeps v e) = write_few _ _ _
  act_few (spells w) = write_few _ _ _
  act_few expands = refl

  token_few : token_turn thin ≡ token_turn h
  token_few =
      ap (perform thin) (act_same h h.state.room (few h.context.records) h.context.bytes) ∙ act_few (act_at h)

module _ (x : Context) where
  frame_few : (s : State) (fs : List Frame) → frame_turn (few_in x) s fs ≡ frame_turn x s fs
  frame_few s [] = refl
  frame_few s (f ∷ fs) = token_few (here_at x s f fs)

  turn_few : (s : State) → turn_at (few_in x) s ≡ turn_at x s
  unfolding turn_at
  turn_few s = frame_few s s.frames

  follow_few : (s : State) (t : Turn) (go go' : State → Run) → ((s' : State) → go s' ≡ go' s') → follow s t go ≡ follow s t go'
  follow_few s (more s' m) go go' h = ap (onto m) (h s')
  follow_few s (stop n f p m) go go' h = refl
  follow_few s finished go go' h = refl

  run_few : (n : ℕ) (s : State) → run_for n (few_in x) s ≡ run_for n x s
  unfolding run_for
  run_few zero s = refl
  run_few (suc n) s =
      ap (λ (t : Turn). follow s t (λ s'. run_for n (few_in x) s')) (turn_few s)
      ∙ follow_few s (turn_at x s) (λ s'. run_for n (few_in x) s') (λ s'. run_for n x s') (run_few n)

module _ (h : HandOver) (t m n b : ℕ) where
  abbrev rooms : ℕ → Rooms
  rooms k = record { text = t; map = m; records = k; bytes = b }

  pub sound_few : is_sound h (rooms (few n)) ≡ is_sound h (rooms n)
  unfolding is_sound starts_fit
  sound_few = rw (fits_few n b (started h.store h.starts)) refl

  from_few : run_from (context_of h (rooms (few n))) (start_of h (rooms (few n))) ≡ run_from (context_of h (rooms n)) (start_of h (rooms n))
  unfolding run_from measure
  from_few = run_few (context_of h (rooms n)) (measure (context_of h (rooms n)) (start_of h (rooms n)).frames) (start_of h (rooms n))

  pub flattened_few : flattened h (rooms (few n)) ≡ flattened h (rooms n)
  unfolding flattened
  flattened_few =
      ap (λ (c : Bool). cond c (ran_over h (rooms (few n))) not_taken) sound_few
      ∙ ap (λ (r : Run). cond (is_sound h (rooms n)) (outcome_of (context_of h (rooms n)) r) not_taken) from_few
