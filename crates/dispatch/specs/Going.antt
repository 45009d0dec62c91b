-- What a run can go on from, and its work space.
-- Assumes nothing.
use Rattle.std.specs.Prelude.{ℕ, ◌≤◌, true, ◌≡◌, List, length}
use Rattle.store.specs.Buffers.{Stored}
use Rattle.handover.specs.Entries.{all_entries}
use Rattle.steps.specs.declared.stage.Stage.{Stage}
use Rattle.steps.specs.Standing.{Bufs, bufs, Ok}

-- the work space of a run
pub record Works (list out ranges : List (List ℕ)) (stack work quoted decimal name form : List ℕ) : Type 0 where
  pub list_lent : 1024 ≤ length list
  pub out_lent : 1024 ≤ length out
  pub ranges_lent : 256 ≤ length ranges
  pub stack_lent : 16384 ≤ length stack
  pub work_lent : 65539 ≤ length work
  pub quoted_lent : 257 ≤ length quoted
  pub decimal_lent : 6 ≤ length decimal
  pub name_lent : 1025 ≤ length name
  pub form_lent : 65536 ≤ length form

-- a stage that a run can go on from
pub record Going (store : List ℕ) (table : List (List ℕ)) (B : Bufs) (z : Stage) : Type 0 where
  pub ok : Ok store table B z
  pub entries : all_entries store table ≡ true
  pub few_entries : length table ≤ 64
  pub bytes_small : length B.bytes ≤ 65536
  pub stored : Stored B.bytes B.records z.macros

-- .. with some conditionals open
pub record GoingIn (store : List ℕ) (table : List (List ℕ)) (text map bytes : List ℕ) (records frames : List (List ℕ)) (z : Stage) : Type 0 where
  pub conds : List (List ℕ)
  pub going : Going store table (bufs text map bytes records frames conds) z
