-- Every macro of a state that a run goes through is one that a definition stores, or a start macro.
-- Assumes nothing.
use Prim.Native.Nat.{ℕ}
use mathlib.Core.Bool.{true}
use mathlib.Core.List.{List, []}
use mathlib.Core.Path.{◌≡◌, subst}
use lib.Dec.{eqb}
use Rattle.lex.specs.Tokens.{name_of}
use Rattle.lex.proofs.Tests.{by_test}
use Rattle.definition.specs.Definitions.{Macro, good, definition_at}
use Rattle.store.specs.Stores.{no_macro, macro_at}
use Rattle.genuine.specs.Fitness.{all_fit}
use Rattle.genuine.proofs.Fitting.{good_fit}
use Rattle.macros.specs.Starting.{started}
use Rattle.macros.proofs.Each.{Each, each_none, each_get, each_define, each_undefine, each_started, Fit, fit_each, each_fit}
use Rattle.macros.proofs.Kept.{started_sound}
use Rattle.handover.specs.Sizes.{HandOver, Rooms, is_sound}
use Rattle.handover.proofs.Laws.{sound_facts}
use Rattle.turns.specs.States.{Context, State, Made, Turn, more, stop, finished, Here}
use Rattle.turns.specs.Usages.{usage_turn}
use Rattle.turns.specs.Turns.{here_at, turn_at}
use Rattle.turns.specs.Runs.{context_of, start_of}
use Rattle.passing.specs.Passing.{formals_of}
use Rattle.turns.specs.Through.{Through, start, next}
use Rattle.passing.specs.Meeting.{expansion_at}
use Rattle.passing.proofs.Keeping.{Sound, sound_nil}
use Rattle.passing.proofs.Sound.{macro_sound}
use Rattle.passing.proofs.Cases.{Behind, same, defined, undefined, forgotten, Kinds, turn_is}

-- ---- what holds of each macro that a definition stores

module _ (P : Macro → Type 0) (stored : (s : List ℕ) (i : ℕ) (m : Macro) (e : ℕ) → definition_at s i ≡ good m e → P m) where
  -- of each macro behind a turn that goes on
  TurnEach : Turn → Type 0
  TurnEach (more s m) = Each P s.macros
  TurnEach (stop n f p m) = Unit {0}
  TurnEach finished = Unit {0}

  behind_each : (h : Here) (ms : List Macro) → Each P h.state.macros → Behind h ms → Each P ms
  behind_each h ms ok same = ok
  behind_each h ms ok (defined {m = m} {e = e} q) = each_define P m h.state.macros (stored h.body h.token.end m e q) ok
  behind_each h ms ok (undefined w) = each_undefine P w h.state.macros ok
  behind_each h ms ok forgotten = each_none P

  usage_each : (h : Here) → Each P h.state.macros → TurnEach (usage_turn h)
  unfolding TurnEach
  usage_each h ok = by_test TurnEach (eqb (expansion_at h (name_of h.body h.token)).stop 0) (λ q. ok) (λ q. tt)

  kinds_each : (h : Here) → Each P h.state.macros → Kinds h TurnEach
  unfolding TurnEach
  kinds_each h ok =
      record {
        refused = λ n p. tt;
        goes = λ fs cs ms l. behind_each h ms ok l;
        wrote = λ ws fs c r. ok;
        used = λ q. usage_each h ok;
      }

  turn_each : (x : Context) (s s' : State) (m : Made) → Each P s.macros → turn_at x s ≡ more s' m → Each P s'.macros
  unfolding TurnEach
  turn_each x s s' m ok e =
      subst (λ (t : Turn). TurnEach t) e (turn_is TurnEach tt (λ f p. tt) x s (λ f fs q. kinds_each (here_at x s f fs) ok))

  -- .. it holds of all of a run
  pub all_each : (x : Context) (s s' : State) → Each P s.macros → Through x s s' → Each P s'.macros
  all_each x s s' ok start = ok
  all_each x s s' ok (next {s₁ = s₁} {m = m} t e) = turn_each x s₁ s' m (all_each x s s₁ ok t) e

-- ---- fit macros, of a hand-over without refusal 1

pub all-fit : (x : Context) (s s' : State) → all_fit s.macros ≡ true → Through x s s' → all_fit s'.macros ≡ true
all-fit x s s' ok t = each_fit s'.macros (all_each Fit good_fit x s s' (fit_each s.macros ok) t)

start_fit : (h : HandOver) (r : Rooms) → is_sound h r ≡ true → all_fit (started h.store h.starts) ≡ true
start_fit h r e = (started_sound r.records r.bytes h.store h.starts (sound_facts h r e).starts_fit).fit

pub fit_through : (h : HandOver) (r : Rooms) (s : State) → is_sound h r ≡ true → Through (context_of h r) (start_of h r) s → all_fit s.macros ≡ true
fit_through h r s e t = all-fit (context_of h r) (start_of h r) s (start_fit h r e) t

-- ---- sound defaults, of every hand-over: start macros have none

abbrev Kept : Macro → Type 0
Kept m = Sound (formals_of m)

pub sound_through : (h : HandOver) (r : Rooms) (s : State) → Through (context_of h r) (start_of h r) s → (i : ℕ)
    → Sound (formals_of (macro_at s.macros i))
sound_through h r s t i =
    each_get Kept s.macros i no_macro
    (all_each Kept (λ b i m e q. macro_sound m (good_fit b i m e q)) (context_of h r) (start_of h r) s
    (each_started Kept (λ w. sound_nil) h.store h.starts [] (each_none Kept)) t) sound_nil
