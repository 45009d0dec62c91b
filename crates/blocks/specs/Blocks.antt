-- Conditional blocks (01, "Directives"): the open conditionals, innermost first.
-- Assumes nothing.
use Rattle.std.specs.Prelude.{ℕ, Bool, true, false, cond, not, ◌&&◌, ◌||◌, List, [], ◌∷◌, leb, length}
use Rattle.std.proofs.Math.Option.{Option, none, some}

pub record Conditional : Type 0 where
  pub file : ℕ  -- the place of its opener
  pub byte : ℕ
  pub outer : Bool  -- the text around it is taken
  pub active : Bool  -- this block is taken
  pub done : Bool  -- a block was chosen
  pub last : Bool  -- past its `else`

-- whether text is taken where these are open
abbrev pub taken_by : List Conditional → Bool
taken_by [] = true
taken_by (c ∷ cs) = c.active

-- `ifdef` or `ifndef` whose condition is b; 8: "a 33rd open"
unfoldable pub open_block : ℕ → ℕ → Bool → List Conditional → Option (List Conditional)
open_block file byte b cs =
    cond (leb 32 (length cs)) none
    (some (record { file = file; byte = byte; outer = taken_by cs; active = taken_by cs && b; done = b; last = false } ∷ cs))

-- `elsif` whose condition is b, or `else`; 8: "with none open; `elsif` or `else` after `else`"
unfoldable pub next_block : Bool → Bool → List Conditional → Option (List Conditional)
next_block b l [] = none
next_block b l (c ∷ cs) =
    cond c.last none
    (some (record { file = c.file; byte = c.byte; outer = c.outer; active = c.outer && (not c.done && b); done = c.done || b; last = l } ∷ cs))

-- `endif`; 8: "with none open"
unfoldable pub close_block : List Conditional → Option (List Conditional)
close_block [] = none
close_block (c ∷ cs) = some cs
