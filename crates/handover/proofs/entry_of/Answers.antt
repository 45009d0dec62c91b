-- `handover::entry_of` meets its contract: the first entry that passes is found, or none passes.
-- Assumes nothing.
use Rattle.std.proofs.Common.{rules, tests, sym, ◌∙◌}
use Rattle.std.proofs.lemmas.Iterator.{YieldsList-from_slice, IsFirst-from_position}
use Rattle.handover.proofs.Walking.{Named, Unnamed, entry_first}
use Rattle.handover.proofs.entry_of.Goals as goal

pub returns : goal.returns
returns c =
    let a = c.args in
    c.unwrap_or.ensures
    ∙ sym (entry_first a.s.now a.form a.w.now a.table.now _ (IsFirst-from_position _ _ _ (Named a.s.now a.form a.w.now) (Unnamed a.s.now a.form a.w.now) c.position.ensures.ran (YieldsList-from_slice c.args.table.now cc) (λ x q k. search (rules, tests)) (λ x q k. search (rules, tests))))
