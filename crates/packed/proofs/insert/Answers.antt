-- `packed::insert` meets its contract. Assumes nothing.
use Rattle.std.proofs.Common.{ap, ◌∙◌, set}
use Rattle.packed.specs.Records.{blank_record, numbers_of}
use Rattle.packed.proofs.Splices.{spliced_in}
use Rattle.packed.proofs.insert.Goals as goal

pub returns : goal.returns
returns c =
    ap (set c.copy_within.new.self c.args.at) c.numbers_of.ensures
    ∙ spliced_in blank_record (numbers_of c.args.r) c.args.records.now c.copy_within.new.self c.args.at c.args.count c.requires.0 c.requires.1 c.copy_within.ensures.after
