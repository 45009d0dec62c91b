-- `handover::name_at` meets its contract.
-- Assumes nothing.
use mathlib.Core.Path.{ap, ◌∙◌}
use mathlib.Core.List.{List, []}
use Prim.Native.Nat.{ℕ}
use Rattle.handover.specs.Entries.{blank_entry, entry_name}
use Rattle.handover.proofs.Walking.{read_any}
use Rattle.handover.proofs.name_at.Goals as goal

pub returns : goal.returns
returns c = let a = c.args in c.name_in.ensures ∙ ap (λ (v : List ℕ). entry_name a.s.now v) (read_any a.table.now a.i [] blank_entry c.requires)
