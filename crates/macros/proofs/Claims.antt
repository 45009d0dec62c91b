-- Which stores definitions leave: exactly those that the test accepts.
-- Assumes nothing.
use Prim.Native.Nat.{ℕ, ◌≤◌, ◌<◌}
use native.Mathlib.Omega.{arith}
use mathlib.Core.Bool.{true}
use mathlib.Core.List.{List, []}
use mathlib.Core.Path.{◌≡◌, refl, sym, ap, ◌∙◌}
use lib.ListN.{length, get_or}
use borrow.Author.Tests.{le-leb}
use Rattle.definition.specs.Definitions.{Macro}
use Rattle.store.specs.Stores.{encode, fits}
use Rattle.store.specs.Buffers.{Holds}
use Rattle.store.proofs.Entries.{bytes_fit, rows_fit}
use Rattle.genuine.specs.Layout.{left_in}
use Rattle.genuine.specs.Leaving.{LeftBy}
use Rattle.std.proofs.Common.{Some}
use Rattle.genuine.proofs.Accepting.{Accepted, left_complete, left_sound}
use Rattle.macros.specs.Starting.{all_starts, started_from, started, starts_fit}
use Rattle.macros.specs.History.{Deed, after_all, spellings}
use Rattle.macros.proofs.Kept.{Sound, started_sound, all_kept}
use Rattle.macros.proofs.Respelled.{spelled_out}

-- where no start macros are asked for, they fit
pub none_fit : (records bytes : ℕ) (s : List ℕ) → starts_fit records bytes s [] ≡ true
unfolding starts_fit all_starts started_from fits encode
none_fit records bytes s = rw (le-leb 0 records (omega arith), le-leb 0 bytes (omega arith))

-- every store that the operations leave, with start macros or none, is accepted
pub operations_accepted : (b : List ℕ) (r : List (List ℕ)) (n : ℕ) (s : List ℕ) (vs : List (List ℕ)) (ds : List Deed) → length b ≤ 65536
    → starts_fit (length r) (length b) s vs ≡ true → Holds (after_all (length r) (length b) ds (started s vs)) b r n → left_in b r ≡ Some n
operations_accepted b r n s vs ds small f h =
    let ms : List Macro = after_all (length r) (length b) ds (started s vs) in
    let k : Sound ms = all_kept (length r) (length b) ds (started s vs) (started_sound (length r) (length b) s vs f) in
    let l : LeftBy ms b r =
    record {
      small = small;
      few = k.few;
      holds = record { bytes = h.bytes; rows = h.rows; count = refl };
      order = k.order;
      fit = k.fit;
    } in
    left_complete ms b r l ∙ ap Some (sym h.count)

-- definitions that spell some macros out leave such a store
pub record SpelledOut (b : List ℕ) (r : List (List ℕ)) (n : ℕ) : Type 0 where
  pub macros : List Macro
  pub left : Holds (after_all (length r) (length b) (spellings macros) []) b r n

-- every store that is accepted is left by some definitions
pub accepted_left : (b : List ℕ) (r : List (List ℕ)) (n : ℕ) → ((i : ℕ) → get_or b i 0 < 256) → left_in b r ≡ Some n → SpelledOut b r n
accepted_left b r n bytes e =
    let a : Accepted b r n = left_sound b r n bytes e in
    let ms : List Macro = a.macros in
    let l : LeftBy ms b r = a.left in
    let q : after_all (length r) (length b) (spellings ms) [] ≡ ms =
    spelled_out (length r) (length b) ms l.order l.fit (record { few = l.few; rows = rows_fit l.holds; long = bytes_fit l.holds }) in
    record {
      macros = ms;
      left = rw q (record { bytes = l.holds.bytes; rows = l.holds.rows; count = a.count });
    }
