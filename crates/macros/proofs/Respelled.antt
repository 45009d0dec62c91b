-- Macros in byte order, each one that a definition stores, spelled out one after the other: that leaves these macros.
-- Assumes nothing.
use Prim.Native.Nat.{ℕ, ◌≤◌}
use native.Mathlib.Omega.{arith}
use mathlib.Core.Bool.{true}
use mathlib.Core.List.{List, [], ◌∷◌, ◌++◌, append_assoc, append-nil}
use mathlib.Core.Path.{◌≡◌, sym, ap, ◌∙◌}
use lib.ListN.{length, length-append}
use lib.Seq.{take-length, drop-length}
use borrow.Author.Tests.{le-leb}
use Rattle.text.specs.Order.{order_of}
use Rattle.std.specs.declared.cmp.Ordering.TheVariants.{Less}
use Rattle.std.specs.Ordering.{ordering_reverse}
use Rattle.text.proofs.Comparing.{order_turned, order_trans}
use Rattle.lex.proofs.Tests.{and_left, and_right}
use Rattle.definition.specs.Definitions.{Macro}
use Rattle.store.specs.Stores.{macro_name, Below, Ascending, define, encode, fits}
use Rattle.std.proofs.Common.{Err}
use Rattle.store.proofs.Ordering.{Belongs, find_belongs, define_at}
use Rattle.store.proofs.Rooms.{encode_long}
use Rattle.genuine.specs.Fitness.{fit_macro, all_fit}
use Rattle.genuine.specs.Spelling.{definition_of, word_end}
use Rattle.genuine.proofs.ReadBack.{read_back}
use Rattle.macros.specs.History.{defines, after, after_all, spellings}

-- ---- a name behind all others

below_behind : (w : List ℕ) (a : List Macro) (m : Macro) (b : List Macro) → Below w (a ++ m ∷ b) → Ascending (a ++ m ∷ b) → order_of w (macro_name m) ≡ Less
below_behind w [] m b h s = h
below_behind w (x ∷ a) m b h s = order_trans w (macro_name x) (macro_name m) h (below_behind (macro_name x) a m b s.0 s.1)

belongs_last : (a : List Macro) (m : Macro) (b : List Macro) → Ascending (a ++ m ∷ b) → Belongs (macro_name m) a (length a)
belongs_last [] m b s = tt
belongs_last (x ∷ a) m b s =
    (order_turned (macro_name x) (macro_name m) ∙ ap ordering_reverse (below_behind (macro_name x) a m b s.0 s.1), belongs_last a m b s.1)

define_last : (a : List Macro) (m : Macro) (b : List Macro) → Ascending (a ++ m ∷ b) → define m a ≡ a ++ (m ∷ [])
define_last a m b s =
    define_at m a (Err (length a)) (find_belongs (macro_name m) a (length a) (belongs_last a m b s)) ∙ rw (take-length a, drop-length a)

-- ---- the room that macros need

pub record Roomy (records bytes : ℕ) (ms : List Macro) : Type 0 where
  pub few : length ms ≤ 256
  pub rows : length ms ≤ records
  pub long : length (encode ms) ≤ bytes

module _ (records bytes : ℕ) where
  roomy_fits : (ms : List Macro) → Roomy records bytes ms → fits records bytes ms ≡ true
  unfolding fits
  roomy_fits ms h =
      rw (le-leb (length ms) 256 h.few, le-leb (length ms) records h.rows, le-leb (length (encode ms)) bytes h.long)

  roomy_front : (a b : List Macro) → Roomy records bytes (a ++ b) → Roomy records bytes a
  roomy_front a b h =
      let n = length-append a b in
      let l = encode_long a b in
      record { few = omega arith; rows = omega arith; long = omega arith }

  -- one definition
  spelled_last : (a : List Macro) (m : Macro) (b : List Macro) → Ascending (a ++ m ∷ b) → fit_macro m ≡ true → Roomy records bytes (a ++ (m ∷ []))
      → after records bytes (defines (definition_of m) word_end) a ≡ a ++ (m ∷ [])
  spelled_last a m b s f h =
      rw (read_back m f, define_last a m b s, roomy_fits (a ++ (m ∷ [])) h)

  -- all of them, behind others
  spelled_behind : (a ms : List Macro) → Ascending (a ++ ms) → all_fit ms ≡ true → Roomy records bytes (a ++ ms) → after_all records bytes (spellings ms) a ≡ a ++ ms
  unfolding after_all spellings all_fit
  spelled_behind a [] s f h = sym (append-nil a)
  spelled_behind a (m ∷ ms) s f h =
      let e : (a ++ (m ∷ [])) ++ ms ≡ a ++ m ∷ ms = append_assoc a (m ∷ []) ms in
      let r : Roomy records bytes ((a ++ (m ∷ [])) ++ ms) = rw e h in
      ap (after_all records bytes (spellings ms)) (spelled_last a m ms s (and_left (fit_macro m) (all_fit ms) f) (roomy_front (a ++ (m ∷ [])) ms r))
      ∙ spelled_behind (a ++ (m ∷ [])) ms (rw e s) (and_right (fit_macro m) (all_fit ms) f) r
      ∙ e

  pub spelled_out : (ms : List Macro) → Ascending ms → all_fit ms ≡ true → Roomy records bytes ms → after_all records bytes (spellings ms) [] ≡ ms
  spelled_out ms s f h = spelled_behind [] ms s f h
