-- What the code answers to a directive that is copied and kept as state.
-- Assumes nothing.
use Rattle.std.specs.Prelude.{ℕ, ◌<◌, ◌≤◌, ◌≡◌, List, length, Result, Ok, Err}
use Rattle.lex.specs.declared.Fault.{Fault}
use Rattle.lex.specs.declared.Token.{Token}
use Rattle.settings.specs.declared.Settings.{Settings}
use Rattle.writing.specs.Written.{Written}
use Rattle.writing.specs.Buffers.{room_of, Puts}
use Rattle.writing.specs.declared.Spot.{Spot}
use Rattle.turns.specs.States.{more, Here, refuse_at, behind, place_here, writes}
use Rattle.turns.specs.Acts.{Act}
use Rattle.turns.specs.Asking.{EndsIn}
use Rattle.turns.specs.Performing.{perform}

-- the directive t stands here, with the state c and writing at z
pub record KeepHere (h : Here) (s : List ℕ) (t : Token) (set place : ℕ) (c : Settings) (text map : List ℕ) (z : Spot) : Type 0 where
  pub set_is : h.context.set ≡ set
  pub body_is : h.body ≡ s
  pub token_is : h.token ≡ t
  pub place_is : place_here h ≡ place
  pub settings_are : h.state.settings ≡ c
  pub room_is : h.state.room ≡ room_of (length text) (length map) z

-- what is lent to write it: the file is of 01's size, and its places are numbers of 32 bits
pub record Keepable (s : List ℕ) (place : ℕ) (text map : List ℕ) (z : Spot) : Type 0 where
  pub small : length s ≤ 65535
  pub place_small : place ≤ 8519680
  pub in_text : z.written ≤ length text
  pub in_map : z.lines ≤ length map

-- what its act comes to: written up to e, with the state then; or refused, and then nothing is changed
pub record Keeps (h : Here) (a : Act) (text text' map map' : List ℕ) (c' : Settings) (z z' : Spot) (e : ℕ) : Type 0 where
  pub written : List Written
  pub turn_is :
      perform h a ≡ more
      (record {
        frames = behind h e;
        conds = h.state.conds;
        macros = h.state.macros;
        settings = c';
        room = room_of (length text) (length map) z';
        left = h.state.left;
      })
      (writes written)
  pub ends : EndsIn h e
  pub puts : Puts written text text' map map' z z'
  pub in_text : z'.written ≤ length text
  pub in_map : z'.lines ≤ length map

-- the state, where writing stands and the directive's end; or a refusal
abbrev pub Kept : Type 0
Kept = Result (Settings × Spot × ℕ) Fault

abbrev pub KeptBy : Kept → Here → Act → List ℕ → List ℕ → List ℕ → List ℕ → Spot → Type 0
KeptBy (Ok x) h a text text' map map' z = Keeps h a text text' map map' x.0 z x.1 x.2
KeptBy (Err f) h a text text' map map' z = (perform h a ≡ refuse_at h f.number f.place) × (0 < f.number) × (text' ≡ text) × (map' ≡ map)
