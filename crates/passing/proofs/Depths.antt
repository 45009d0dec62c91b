-- Of the turns of a run only a usage has depth; the turn at a usage that is met is its expansion.
-- Assumes nothing.
use Prim.Native.Nat.{ℕ, ◌≤◌}
use mathlib.Core.Bool.{Bool, true, false, ◌&&◌}
use mathlib.Core.List.{List}
use mathlib.Core.Path.{◌≡◌, refl, ap, sym, ◌∙◌}
use native.Mathlib.Omega.{arith}
use borrow.Author.Tests.{eqb-true}
use lib.Dec.{eqb, leb}
use Rattle.lex.specs.Tokens.{Grave, End, is, name_of}
use Rattle.lex.proofs.Tests.{by_test, and_left, and_right}
use Rattle.names.specs.Names.{Ifdef, Endif, directive_of}
use Rattle.blocks.specs.Blocks.{taken_by}
use Rattle.expand.specs.Expanding.{first, goes_on}
use Rattle.turns.specs.States.{Context, Frame, State, Turn, more, stop, finished, Here}
use Rattle.turns.specs.Acts.{taken_act, act_at}
use Rattle.turns.specs.Usages.{after_usage, usage_turn}
use Rattle.turns.specs.Turns.{token_turn, here_at, frame_turn, turn_at}
use Rattle.passing.specs.Meeting.{is_met, Meets, expansion_at}
use Rattle.passing.proofs.Cases.{Kinds, turn_is}

-- a turn of depth at most n
unfoldable pub TurnIn : ℕ → Turn → Type 0
TurnIn n (more s m) = m.depth ≤ n
TurnIn n (stop k f p m) = m.depth ≤ n
TurnIn n finished = Unit {0}

usage_in : (n : ℕ) (h : Here) → (expansion_at h (name_of h.body h.token)).depth ≤ n → TurnIn n (usage_turn h)
unfolding TurnIn
usage_in n h l = by_test (TurnIn n) (eqb (expansion_at h (name_of h.body h.token)).stop 0) (λ q. l) (λ q. l)

kinds_in : (n : ℕ) (h : Here) → (is_met h ≡ true → (expansion_at h (name_of h.body h.token)).depth ≤ n) → Kinds h (TurnIn n)
unfolding TurnIn
kinds_in n h met =
    let z : 0 ≤ n = omega arith in
    record {
      refused = λ k p. z;
      goes = λ fs cs ms l. z;
      wrote = λ ws fs c r. z;
      used = λ q. usage_in n h (met q);
    }

-- where no usage that is met there goes deeper
pub turn_in : (n : ℕ) (x : Context) (s : State) → ((a : Here) (w : List ℕ) → Meets x s a w → (expansion_at a w).depth ≤ n)
    → TurnIn n (turn_at x s)
unfolding TurnIn
turn_in n x s met =
    let z : 0 ≤ n = omega arith in
    turn_is (TurnIn n) tt (λ f p. z) x s
    (λ f fs q. let a : Here = here_at x s f fs in
    kinds_in n a
    (λ e. met a (name_of a.body a.token)
    (record { frame = f; others = fs; frames_are = q; here_is = refl; met = e; name_is = refl })))

-- the turn at a usage that is met
met_turn : (h : Here) → is_met h ≡ true → token_turn h ≡ usage_turn h
unfolding act_at taken_act
met_turn h e =
    let t = h.token in
    let d : ℕ = directive_of (name_of h.body t) in
    let u : Bool = eqb d 0 && taken_by h.state.conds in
    let v : (is Grave t && u) ≡ true = and_right (eqb t.bar 0) (is Grave t && u) e in
    let b : eqb t.bar 0 ≡ true = and_left (eqb t.bar 0) (is Grave t && u) e in
    let g : is Grave t ≡ true = and_left (is Grave t) u v in
    let z : eqb d 0 ≡ true = and_left (eqb d 0) (taken_by h.state.conds) (and_right (is Grave t) u v) in
    let k : taken_by h.state.conds ≡ true = and_right (eqb d 0) (taken_by h.state.conds) (and_right (is Grave t) u v) in
    let c : is End t ≡ false = ap (λ (j : ℕ). eqb j End) (eqb-true t.kind Grave g) in
    let l : (leb Ifdef d && leb d Endif) ≡ false = ap (λ (j : ℕ). leb Ifdef j && leb j Endif) (eqb-true d 0 z) in
    rw (b, c, g, l, k, z)

pub turn_met : (x : Context) (s : State) (a : Here) (w : List ℕ) → Meets x s a w
    → turn_at x s ≡ after_usage a (goes_on a.body (first a.state.macros w a.body a.token.end)) (expansion_at a w)
unfolding turn_at
turn_met x s a w m =
    ap (λ (fs : List Frame). frame_turn x s fs) m.frames_are
    ∙ ap (λ (b : Here). token_turn b) (sym m.here_is)
    ∙ met_turn a m.met
    ∙ ap (λ (v : List ℕ). after_usage a (goes_on a.body (first a.state.macros v a.body a.token.end)) (expansion_at a v)) (sym m.name_is)
