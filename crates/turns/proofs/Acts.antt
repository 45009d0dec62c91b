-- No act depends on room.
-- Assumes nothing.
use Prim.Native.Nat.{ℕ}
use mathlib.Core.Path.{◌≡◌, refl}
use Rattle.writing.specs.Written.{Room}
use Rattle.turns.specs.States.{Here}
use Rattle.turns.specs.Acts.{conditional_act, taken_act, act_at}

-- the token here, in other rooms for text, map and macros
abbrev pub in_rooms : Here → Room → ℕ → ℕ → Here
in_rooms h r n b =
    record {
      context = record { store = h.context.store; table = h.context.table; set = h.context.set; records = n; bytes = b };
      state =
          record {
            frames = h.state.frames;
            conds = h.state.conds;
            macros = h.state.macros;
            settings = h.state.settings;
            room = r;
            left = h.state.left;
          };
      frame = h.frame;
      others = h.others;
      body = h.body;
      token = h.token;
    }

pub act_same : (h : Here) (r : Room) (n b : ℕ) → act_at (in_rooms h r n b) ≡ act_at h
unfolding act_at taken_act conditional_act
act_same h r n b = refl
