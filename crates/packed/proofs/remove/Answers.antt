-- `packed::remove` meets its contract. Assumes nothing.
use Rattle.packed.specs.Records.{blank_record}
use Rattle.packed.proofs.Splices.{spliced_out}
use Rattle.packed.proofs.remove.Goals as goal

pub returns : goal.returns
returns c = spliced_out blank_record c.args.records.now c.copy_within.new.self c.args.at c.args.count c.requires.0 c.requires.1 c.copy_within.ensures.after
