-- Each turn that goes on lowers the measure of the files being read.
-- Assumes nothing.
use Prim.Native.Nat.{ℕ, zero, suc, ◌+◌, ◌-◌, ◌*◌, ◌<◌, ◌≤◌}
use mathlib.Core.Bool.{Bool, true, false}
use mathlib.Core.List.{List, ◌∷◌}
use mathlib.Core.Path.{◌≡◌, sym, ap, subst}
use native.Mathlib.Nat.{mul-le-mul_right, mul-lt-mul_of_pos_right, suc-mul}
use native.Mathlib.Omega.{arith}
use lib.Dec.{eqb}
use lib.ListN.{length, get_or}
use Rattle.lex.proofs.Tests.{by_test}
use Rattle.store.specs.Stores.{define, fits}
use Rattle.settings.specs.declared.Settings.{Settings}
use Rattle.writing.specs.Written.{Written}
use Rattle.copying.specs.declared.Cursor.{Cursor}
use Rattle.copying.specs.Cursors.{opening, cursor_past, cursor_behind}
use Rattle.handover.specs.Entries.{blank_entry, body_of, all_entries}
use Rattle.handover.proofs.Laws.{entries_sound, entry-body}
use Rattle.turns.specs.States.{Context, Frame, State, Made, Turn, more, stop, finished, Here, frames_at, behind, write}
use Rattle.turns.specs.Acts.{Act}
use Rattle.turns.specs.Usages.{usage_end, expand_here}
use Rattle.turns.specs.Performing.{perform}
use Rattle.turns.specs.Turns.{here_at, token_turn, turn_at}
use Rattle.turns.specs.Runs.{power, measure}
use Rattle.turns.specs.Asking.{Reading, EndsAt, Asks, to_refuse, to_leave, to_copy, to_skip, to_hide, to_branch, to_define, to_undefine, to_include, to_keep, to_spell, to_expand}
use Rattle.turns.proofs.Turning.{by_turn, by_write}
use Rattle.turns.proofs.Asking.{word_ends, usage_ends, act_asks}

-- ---- numbers

power_some : (n : ℕ) → 1 ≤ power n
unfolding power
power_some zero = omega arith
power_some (suc n) = omega (arith, power_some n)

-- fewer bytes left
fewer : (a b p m : ℕ) → a < b → 1 ≤ p → a * p + m < b * p + m
fewer a b p m h g = let k : a * p < b * p = mul-lt-mul_of_pos_right h (omega arith) in omega arith

-- fewer bytes left, and c of a file entered
entered : (a b c p q m : ℕ) → q ≡ 65537 * p → a < b → c ≤ 65535 → 1 ≤ p → c * p + suc (a * q + m) < b * q + m
entered a b c p q m e h l g =
    let k : suc a * q ≤ b * q = mul-le-mul_right q h in
    let n : suc a * q ≡ a * q + q = suc-mul a q in
    let o : c * p ≤ 65535 * p = mul-le-mul_right p l in
    omega arith

-- ---- turns

-- a turn that goes on, with files gs before it, lowers their measure
Falls : Context → List Frame → Turn → Type 0
Falls x gs (more s m) = measure x s.frames < measure x gs
Falls x gs (stop n f p m) = Unit {0}
Falls x gs finished = Unit {0}

module _ (x : Context) (s : State) (f : Frame) (fs : List Frame) where
  abbrev here : Here
  here = here_at x s f fs

  abbrev Goes : Turn → Type 0
  Goes t = Falls x (f ∷ fs) t

  abbrev Less : List Frame → Type 0
  Less gs = measure x gs < measure x (f ∷ fs)

  write_goes : (ws : List Written) (gs : List Frame) (c : Settings) → Less gs → Goes (write here ws gs c)
  unfolding Falls
  write_goes ws gs c h = by_write here Goes ws gs c (λ n e. tt) (λ r e. h)

  -- the file ends
  popped : Less fs
  unfolding measure
  popped = omega arith

  -- it does not
  moved : (c : Cursor) → Reading here → here.token.end ≤ c.at → Less (frames_at here c)
  unfolding measure
  moved c r h =
      fewer (length here.body - c.at) (length here.body - f.cursor.at) (power (15 - length fs)) (suc (measure x fs))
      (omega (arith, r.past, r.before)) (power_some (15 - length fs))

  past_less : (b : Bool) → Reading here → Less (frames_at here (cursor_past here.body b here.token f.cursor))
  unfolding cursor_past
  past_less b r = moved (cursor_past here.body b here.token f.cursor) r (omega arith)

  behind_less : (e : ℕ) → Reading here → EndsAt here e → Less (behind here e)
  unfolding cursor_behind
  behind_less e r i = moved (cursor_behind here.body e f.cursor) r i.past

  pushed : (i e : ℕ) → all_entries x.store x.table ≡ true → Reading here → i < length x.table → length fs < 15 → EndsAt here e
      → Less (record { file = i; cursor = opening } ∷ behind here e)
  unfolding measure power cursor_behind
  pushed i e ok r h d g =
      let n : 15 - length fs ≡ suc (15 - suc (length fs)) = omega arith in
      let q : power (15 - length fs) ≡ 65537 * power (15 - suc (length fs)) = ap power n in
      let c : length (body_of x.store x.table i) ≤ 65535 =
      entry-body x.store (get_or x.table i blank_entry) (entries_sound x.store x.table i ok h) in
      entered (length here.body - e) (length here.body - f.cursor.at) (length (body_of x.store x.table i) - 0)
      (power (15 - suc (length fs))) (power (15 - length fs)) (suc (measure x fs)) q (omega (arith, r.past, r.before, g.past)) (omega arith) (power_some (15 - suc (length fs)))

  act_goes : all_entries x.store x.table ≡ true → {a : Act} → Asks here a → Goes (perform here a)
  unfolding Falls
  act_goes ok (to_refuse w) = tt
  act_goes ok (to_leave b e) = by_test Goes f.cursor.comment (λ q. write_goes _ fs _ popped) (λ q. popped)
  act_goes ok (to_copy r t g) = write_goes _ _ _ (past_less true r)
  act_goes ok (to_skip r t) = past_less false r
  act_goes ok (to_hide {e} a t d i) = behind_less e a.reading i
  act_goes ok (to_branch {d} {e} {cs} a o i) = behind_less e a.reading i
  act_goes ok (to_define {m} {e} a t q i) =
      by_test Goes (fits x.records x.bytes (define m s.macros)) (λ q. behind_less e a.reading i) (λ q. tt)
  act_goes ok (to_undefine {ms} {e} r t l i) = behind_less e r i
  act_goes ok (to_include {i} {e} a t n z) = pushed i e ok a.reading n.entry_in n.depth_in z
  act_goes ok (to_keep {v} {e} d a t k q i) = write_goes _ _ _ (behind_less e a.reading i)
  act_goes ok (to_spell r t w) = write_goes _ _ _ (behind_less here.token.end r (word_ends here r))
  act_goes ok (to_expand a t) =
      by_test Goes (eqb (expand_here here).stop 0)
      (λ q. behind_less (usage_end here) a.reading (usage_ends here a.reading.within q))
      (λ q. tt)

pub turn_falls : (x : Context) (s s' : State) (m : Made) → all_entries x.store x.table ≡ true → turn_at x s ≡ more s' m
    → measure x s'.frames < measure x s.frames
unfolding Falls
turn_falls x s s' m ok e =
    subst (Falls x s.frames) e
    (by_turn x s (Falls x s.frames) (λ q k. tt) (λ c cs k. tt)
    (λ f fs q. subst (λ (gs : List Frame). Falls x gs (token_turn (here_at x s f fs))) (sym q) (act_goes x s f fs ok (act_asks x s f fs))))
