-- `handover::body_at` meets its contract.
-- Assumes nothing.
use mathlib.Core.Path.{ap, ◌∙◌}
use mathlib.Core.List.{List, []}
use Prim.Native.Nat.{ℕ}
use Rattle.handover.specs.Entries.{blank_entry, entry_body}
use Rattle.handover.proofs.Walking.{read_any}
use Rattle.handover.proofs.body_at.Goals as goal

pub returns : goal.returns
returns c = let a = c.args in c.body_in.ensures ∙ ap (λ (v : List ℕ). entry_body a.s.now v) (read_any a.table.now a.i [] blank_entry c.requires)
