-- `records::remove` meets its contract. Assumes nothing.
use Rattle.std.proofs.Common.{◌-◌, ◌∙◌, ap, set}
use Rattle.records.specs.Records.{no_record}
use Rattle.records.proofs.Shift.{taken_out}
use Rattle.records.proofs.remove.Goals as goal

pub returns : goal.returns
returns c =
    ap (set c.copy_within.new.self (c.args.n - 1)) c.no_record.ensures
    ∙ taken_out no_record c.args.records.now c.args.n c.args.at c.copy_within.new.self c.requires.1 c.requires.0 c.copy_within.ensures.after
