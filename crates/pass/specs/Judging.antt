-- The texts of macros as references, and what the code says of them.
-- Assumes nothing.
use Rattle.std.specs.Prelude.{ℕ, Result, Ok, Err, ◌-◌, ◌+◌, ◌≤◌, ◌≡◌, List, length, drop}
use Rattle.std.proofs.Math.Option.{Option, none, some}
use Rattle.text.specs.Bytes.{part}
use Rattle.store.specs.Buffers.{Stored}
use Rattle.packed.specs.declared.Record.{Record}
use Rattle.pending.specs.References.{stacked}
use Rattle.passing.specs.Passing.{tokens_of}

abbrev pub verdict_of : Option ℕ → Result (Unit {0}) ℕ
verdict_of none = Ok tt
verdict_of (some n) = Err n

-- the last n references of l' stand for the tokens of the text of q, the first one last
pub record Unfolds (b : List ℕ) (q : Record) (l l' : List (List ℕ)) (n : ℕ) : Type 0 where
  pub same_length : length l' ≡ length l
  pub few : n ≤ length l
  pub short : n ≤ length (part b q.text (q.text + q.size))
  pub tokens : (s : List ℕ) → stacked s b (drop (length l - n) l') n ≡ tokens_of (part b q.text (q.text + q.size))

-- a store of at most 256 macros
pub record Kept (b : List ℕ) (r : List (List ℕ)) (macros : ℕ) : Type 0 where
  pub bytes_small : length b ≤ 65536
  pub few_macros : macros ≤ 256
  pub stored : Stored b r macros

-- what is lent to judge texts
pub record Works (l ranges : List (List ℕ)) (stack : List ℕ) : Type 0 where
  pub list_lent : 65536 ≤ length l
  pub ranges_lent : 256 ≤ length ranges
  pub stack_lent : 16384 ≤ length stack
