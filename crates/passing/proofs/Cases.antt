-- The kinds of turns: what holds of each kind holds of every turn of a run.
-- Assumes nothing.
use Prim.Native.Nat.{ℕ}
use mathlib.Core.Bool.{Bool, true, false, ◌&&◌}
use mathlib.Core.List.{List, [], ◌∷◌}
use mathlib.Core.Path.{◌≡◌}
use lib.Dec.{eqb}
use borrow.Author.Tests.{eq-eqb}
use Rattle.text.specs.Bytes.{part}
use Rattle.lex.specs.Tokens.{Grave, is, name_of}
use Rattle.lex.proofs.Tests.{by_test}
use Rattle.names.specs.Names.{directive_of}
use Rattle.definition.specs.Definitions.{Macro, good, definition_at}
use Rattle.store.specs.Stores.{define, undefine, fits}
use Rattle.settings.specs.declared.Settings.{Settings}
use Rattle.writing.specs.Written.{Written, Room, fitted}
use Rattle.blocks.specs.Blocks.{Conditional, taken_by}
use Rattle.turns.specs.States.{Context, Frame, State, nothing, Turn, stop, finished, Here, on_put, write, go_to, refuse_at}
use Rattle.turns.specs.Acts.{Act}
use Rattle.turns.specs.Usages.{usage_turn}
use Rattle.turns.specs.Performing.{perform}
use Rattle.turns.specs.Turns.{here_at, turn_at}
use Rattle.turns.specs.Asking.{Named, Remain, all_but, no_more, Asks, to_refuse, to_leave, to_copy, to_skip, to_hide, to_branch, to_define, to_undefine, to_include, to_keep, to_spell, to_expand}
use Rattle.turns.proofs.Turning.{by_turn, by_write}
use Rattle.turns.proofs.Asking.{act_asks}
use Rattle.passing.specs.Meeting.{is_met}

-- the macros behind a token that is no usage
pub data Behind (h : Here) : List Macro → Type 0 where
  same : Behind h h.state.macros
  defined : {m : Macro} {e : ℕ} → definition_at h.body h.token.end ≡ good m e → Behind h (define m h.state.macros)
  undefined : (w : List ℕ) → Behind h (undefine w h.state.macros)
  forgotten : Behind h []

-- a refusal, a turn that writes nothing, one that writes, a usage that is met
pub record Kinds (h : Here) (P : Turn → Type 0) : Type 0 where
  pub refused : (n p : ℕ) → P (refuse_at h n p)
  pub goes : (fs : List Frame) (cs : List Conditional) (ms : List Macro) → Behind h ms → P (go_to h fs cs ms)
  pub wrote : (ws : List Written) (fs : List Frame) (c : Settings) (r : Room) → P (on_put h ws fs c (fitted r))
  pub used : is_met h ≡ true → P (usage_turn h)

both : (a b : Bool) → a ≡ true → b ≡ true → (a && b) ≡ true
both true b p q = q
both false b p q = p

module _ (h : Here) (P : Turn → Type 0) (k : Kinds h P) where
  go_is : (fs : List Frame) (cs : List Conditional) → P (go_to h fs cs h.state.macros)
  go_is fs cs = k.goes fs cs h.state.macros same

  write_is : (ws : List Written) (fs : List Frame) (c : Settings) → P (write h ws fs c)
  write_is ws fs c = by_write h P ws fs c (λ n e. k.refused n h.token.at) (λ r e. k.wrote ws fs c r)

  remain_behind : (e : ℕ) (ms : List Macro) → Remain h e ms → Behind h ms
  remain_behind e ms (all_but p a q) = undefined (part h.body p e)
  remain_behind e ms (no_more a) = forgotten

  met : Named h 0 → taken_by h.state.conds ≡ true → is_met h ≡ true
  met a t =
      let d : ℕ = directive_of (name_of h.body h.token) in
      both (eqb h.token.bar 0) _ a.reading.free (both (is Grave h.token) _ a.grave (both (eqb d 0) _ (eq-eqb d 0 a.name_is) t))

  act_is : {a : Act} → Asks h a → P (perform h a)
  act_is (to_refuse w) = k.refused _ _
  act_is (to_leave b e) = by_test P h.frame.cursor.comment (λ q. write_is _ _ _) (λ q. go_is _ _)
  act_is (to_copy r t g) = write_is _ _ _
  act_is (to_skip r t) = go_is _ _
  act_is (to_hide a t d i) = go_is _ _
  act_is (to_branch a o i) = go_is _ _
  act_is (to_define {m} {e} a t q i) =
      by_test P (fits h.context.records h.context.bytes (define m h.state.macros))
      (λ z. k.goes _ _ (define m h.state.macros) (defined q)) (λ z. k.refused _ _)
  act_is (to_undefine {ms} {e} r t l i) = k.goes _ _ ms (remain_behind e ms l)
  act_is (to_include a t n i) = go_is _ _
  act_is (to_keep d a t v q i) = write_is _ _ _
  act_is (to_spell r t w) = write_is _ _ _
  act_is (to_expand a t) = k.used (met a t)

-- at the end of the files, or at a token
pub turn_is : (P : Turn → Type 0) → P finished → ((f p : ℕ) → P (stop 8 f p nothing)) → (x : Context) (s : State)
    → ((f : Frame) (fs : List Frame) → s.frames ≡ f ∷ fs → Kinds (here_at x s f fs) P) → P (turn_at x s)
turn_is P over unclosed x s k =
    by_turn x s P (λ q e. over) (λ c cs e. unclosed c.file c.byte) (λ f fs q. act_is (here_at x s f fs) P (k f fs q) (act_asks x s f fs))
