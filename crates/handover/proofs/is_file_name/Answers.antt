-- `handover::is_file_name` meets its contract: the length decides, or each byte is asked in turn.
-- Assumes nothing.
use Rattle.std.proofs.Common.{rules, tests, ◌∙◌}
use Rattle.std.proofs.lemmas.Iterator.{YieldsList-from_slice}
use Rattle.std.proofs.lemmas.Iterator.Search.{all_from_yields_List}
use Rattle.handover.specs.Entries.{is_name_byte}
use Rattle.handover.proofs.Walking.{name_unsized, name_sized, bytes_all}
use Rattle.handover.proofs.is_file_name.Goals as goal

pub returns-then-w : goal.returns-then-w
returns-then-w c = name_unsized c.args.w.now c.if-w.true

pub returns : goal.returns
returns c =
    all_from_yields_List is_name_byte _ _ _ c.all.ensures.ran (YieldsList-from_slice c.args.w.now cc) (λ x b q k. search (rules, tests))
    ∙ bytes_all c.args.w.now
    ∙ name_sized c.args.w.now c.if-w.false
