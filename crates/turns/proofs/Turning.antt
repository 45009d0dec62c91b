-- What holds of the turn at every token and at the end of the files holds of every turn; what holds with room and without holds of
-- writing.
-- Assumes nothing.
use Prim.Native.Nat.{ℕ}
use mathlib.Core.List.{List, [], ◌∷◌}
use mathlib.Core.Path.{◌≡◌, refl}
use Rattle.settings.specs.declared.Settings.{Settings}
use Rattle.writing.specs.Written.{Written, Room, Put, full, fitted, put_in}
use Rattle.blocks.specs.Blocks.{Conditional}
use Rattle.turns.specs.States.{Context, Frame, State, nothing, Turn, stop, finished, Here, refuse, on_put, write}
use Rattle.turns.specs.Turns.{last_turn, here_at, token_turn, frame_turn, turn_at}

module _ (x : Context) (s : State) (P : Turn → Type 0) (over : s.frames ≡ [] → s.conds ≡ [] → P finished)
    (unclosed : (c : Conditional) (cs : List Conditional) → s.conds ≡ c ∷ cs → P (stop 8 c.file c.byte nothing))
    (token : (f : Frame) (fs : List Frame) → s.frames ≡ f ∷ fs → P (token_turn (here_at x s f fs))) where
  by_conds : (cs : List Conditional) → s.conds ≡ cs → s.frames ≡ [] → P (last_turn cs)
  by_conds [] e q = over q e
  by_conds (c ∷ cs) e q = unclosed c cs e

  by_frames : (gs : List Frame) → s.frames ≡ gs → P (frame_turn x s gs)
  by_frames [] q = by_conds s.conds refl q
  by_frames (f ∷ fs) q = token f fs q

  pub by_turn : P (turn_at x s)
  unfolding turn_at
  by_turn = by_frames s.frames refl

module _ (h : Here) (P : Turn → Type 0) (ws : List Written) (fs : List Frame) (c : Settings) (refused : (n : ℕ) → put_in h.state.room ws ≡ full n → P (refuse h n))
    (wrote : (r : Room) → put_in h.state.room ws ≡ fitted r → P (on_put h ws fs c (fitted r))) where
  by_put : (p : Put) → put_in h.state.room ws ≡ p → P (on_put h ws fs c p)
  by_put (full n) e = refused n e
  by_put (fitted r) e = wrote r e

  pub by_write : P (write h ws fs c)
  by_write = by_put (put_in h.state.room ws) refl
