-- `handover::all_entries` meets its contract: each entry is asked in turn.
-- Assumes nothing.
use Rattle.std.proofs.Common.{rules, tests, ◌∙◌}
use Rattle.std.proofs.lemmas.Iterator.{YieldsList-from_slice}
use Rattle.std.proofs.lemmas.Iterator.Search.{all_from_yields_List}
use Rattle.handover.specs.Entries.{is_entry}
use Rattle.handover.proofs.Walking.{entries_all}
use Rattle.handover.proofs.all_entries.Goals as goal

pub returns : goal.returns
returns c =
    all_from_yields_List (is_entry c.args.s.now) _ _ _ c.all.ensures.ran (YieldsList-from_slice c.args.table.now cc) (λ x b q k. search (rules, tests))
    ∙ entries_all c.args.s.now c.args.table.now
